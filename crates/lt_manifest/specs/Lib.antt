pub mod Area
pub mod Promise
pub mod Shape
pub mod Spelling
pub mod Written
