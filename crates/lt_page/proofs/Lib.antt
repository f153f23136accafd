pub mod BlockForm
pub mod BlockSteps
pub mod Zeros
