-- what a walk over a tree visits
pub mod Visits
-- the levels of a walk, and the room for them
pub mod Stack
-- what a walk has left to visit
pub mod Left
-- how often it can go on at most, over levels of any kind: definitions with their proofs in them, as no clause can state such laws
pub mod Falls
pub mod Steps
-- a parsed tree, and a walk over it
pub mod Parse
-- the tree apart from its tables and its input
pub mod Detached
