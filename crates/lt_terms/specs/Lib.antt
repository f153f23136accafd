pub mod Bytes
pub mod Causes
pub mod Hashes
pub mod Items
