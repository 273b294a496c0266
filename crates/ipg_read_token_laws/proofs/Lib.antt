pub mod Bytes
pub mod Texts
-- the longest is taken
pub mod Runs
pub mod Taken
pub mod Reached
pub mod One
pub mod Law
-- a whole text falls into pieces
pub mod Pieces
pub mod Falls
-- a canonical text gives its tokens back
pub mod Spelled
pub mod Back
