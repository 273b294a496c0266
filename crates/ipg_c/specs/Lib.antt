-- what a caller hands over
pub mod Handed
-- what it gets
pub mod Shown
pub mod Answered
-- what it gets of trees, as rows
pub mod Rowed
