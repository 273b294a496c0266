-- the rows of a tree
pub mod Rows
-- what a parsed tree says at a visit
pub mod Sees
