pub mod FillLaws
pub mod SuperLaws
