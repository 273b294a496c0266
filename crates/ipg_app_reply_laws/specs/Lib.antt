-- the sentence
pub mod Headline
-- that something is said
pub mod Replies
