pub mod Block
pub mod Follows
