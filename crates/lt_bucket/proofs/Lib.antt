pub mod ItemsOf
mod Lookups
pub mod BucketPages
pub mod Growing
mod Finished
mod FewLaws
mod KnownLaws
