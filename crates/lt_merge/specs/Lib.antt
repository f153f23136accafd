pub mod Dealing
pub mod Places
