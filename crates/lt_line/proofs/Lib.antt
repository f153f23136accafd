pub mod FeedLaws
pub mod GeneratorLaws
pub mod HeldLaws
pub mod ReplyLaws
pub mod TallyLaws
