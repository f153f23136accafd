pub mod Found
pub mod Kept
pub mod Seen
pub mod Asking
pub mod Reads
pub mod Searched
