pub mod Splices
mod Readings
