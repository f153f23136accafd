pub mod DealLaws
pub mod PlaceLaws
