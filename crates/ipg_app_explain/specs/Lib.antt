-- a place in a text, its line, and the mark under it
pub mod Spot
-- what stands there
pub mod Word
-- what is wrong, and what can be done
pub mod Why
-- where a term stands
pub mod Terms
-- bytes and numbers
pub mod Bytes
-- what a term asks for, and what its rule is called
pub mod Named
-- the names that a term read, with their values
pub mod Values
-- where an input stopped being what a grammar wants
pub mod Furthest
-- what functions inside the crate promise each other
pub mod Seen
