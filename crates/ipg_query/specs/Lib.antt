-- what a path picks of a tree
pub mod Picked
-- that hits are what is picked, of which trees
pub mod Hits
-- a walk over what was picked, and all that lies in it
pub mod Inside
-- what holds of that
pub mod Laws
-- what functions inside the crate promise each other
pub mod Spots
