pub mod Buffer
pub mod Drawing
pub mod Generated
pub mod Held
pub mod Tally
pub mod Undrawn
pub mod View
pub mod Waiting
