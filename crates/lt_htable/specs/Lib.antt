pub mod Faults
pub mod Reading
pub mod Building
pub mod Cutting
