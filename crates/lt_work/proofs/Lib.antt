pub mod CandidateLaws
pub mod CommitLaws
pub mod EndLaws
pub mod OutlastLaws
pub mod StepLaws
