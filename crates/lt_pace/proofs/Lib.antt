pub mod CandidateLaws
pub mod MarkLaws
