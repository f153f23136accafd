pub mod Owned
pub mod Reading
pub mod Looks
pub mod Building
pub mod Added
