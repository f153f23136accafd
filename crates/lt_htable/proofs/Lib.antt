pub mod SoughtLaws
pub mod ScanLaws
pub mod EntryLaws
pub mod FillLaws
pub mod WriteLaws
pub mod PlacedLaws
mod CutLaws
mod PartLaws
