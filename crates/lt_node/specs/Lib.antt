pub mod View
pub mod Changing
pub mod Places
pub mod Marks
pub mod Octal
