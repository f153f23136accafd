pub mod Changes
pub mod Layout
pub mod Log
pub mod Regions
pub mod Snapshot
pub mod Trie
