-- the places that no leaf has
pub mod Bare
-- the tree beside the bytes
pub mod View
-- what a path picks of it
pub mod Picked
-- what holds of it
pub mod Laws
-- a text of a line, put together: what functions inside the crate promise each other
pub mod Cutting
