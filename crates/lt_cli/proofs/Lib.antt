pub mod DamageLaws
pub mod TellingLaws
pub mod WordLaws
