-- a text that was put into a sink
pub mod Puts
-- texts that were put one behind another: for proofs here and above
pub mod Putting
-- the words of a line
pub mod Words
-- what a printed tree is printed by and from
pub mod Shares
-- the line of each visit
pub mod Line
-- what visits and words come to one behind another: for proofs here and above
pub mod Behind
-- the tree as a JSON text
pub mod Json
-- that text visit by visit: what functions inside the crate promise each other
pub mod JsonWalk
