pub mod Calls
pub mod Memory
pub mod Output
pub mod Pieces
pub mod Streams
