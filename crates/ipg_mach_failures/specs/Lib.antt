-- when a term fails by itself, why, and where
pub mod Failing
-- the calls that are open, and which of them are shown
pub mod Chain
-- the names that the expressions of the term read, with their values
pub mod Values
-- the failures that an evaluation meets, and the furthest of them
pub mod Furthest
-- what holds of them
pub mod Laws
