pub mod Alike
pub mod Bucket
pub mod Cut
pub mod Filter
pub mod Placement
pub mod Table
