pub mod Extents
pub mod Stack
