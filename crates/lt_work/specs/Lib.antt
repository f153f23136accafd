pub mod Advancing
pub mod Committing
pub mod Ending
pub mod Work
