-- what comes next of words and digits
pub mod Pieces
-- the lines of a tree are those of its visits
pub mod Visited
-- objects of the JSON text as pieces behind pieces
pub mod Objects
-- that text is that of the visits of a tree
pub mod Nested
-- what a visit shows, as objects show it
pub mod Seen
