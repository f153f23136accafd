pub mod Group
pub mod LogState
pub mod LogView
pub mod Opening
pub mod Slots
