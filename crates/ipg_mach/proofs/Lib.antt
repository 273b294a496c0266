pub mod Rows
pub mod Stores
pub mod Working
pub mod Waiting
pub mod Answered
pub mod Reading
pub mod Stepping
pub mod Knowing
pub mod Remembering
pub mod Opening
pub mod Ending
-- what is known of the first rule on the whole input
pub mod Verdicts
pub mod Endings
