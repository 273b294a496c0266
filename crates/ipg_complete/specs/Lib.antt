-- what a completed grammar is
pub mod Unordered
-- what completion writes
pub mod Completion
-- inside
pub mod Lefts
-- what holds of it
pub mod Laws
