-- the items of an array or a repetition so far
pub mod Items
-- laws of items, of results and of stores that grow
pub mod Laws
-- which alternatives are closed by a node
pub mod Closes
-- the rows of a node
pub mod Kept
