pub mod Calls
pub mod Faults
pub mod History
pub mod Memory
pub mod Moments
pub mod Reads
pub mod State
pub mod Steady
