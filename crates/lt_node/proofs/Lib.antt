pub mod OctalLaws
pub mod PlaceLaws
pub mod MarkLaws
pub mod FitLaws
pub mod TotalLaws
pub mod ApplyLaws
pub mod AfterLaws
