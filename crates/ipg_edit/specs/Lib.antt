-- a session, and what it knows
pub mod Session
-- what an edit makes of it
pub mod Edits
-- what it answers
pub mod Answered
