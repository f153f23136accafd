pub mod AreaLaws
pub mod ClearLaws
pub mod CommitLaws
pub mod GroupLaws
pub mod LogLaws
pub mod NextGroup
pub mod OpeningLaws
pub mod ReadLaws
