-- texts of items, in turn
pub mod Turn
-- what variables are called
pub mod Names
-- what is noted of a cycle
pub mod Notes
-- what holds of that
pub mod Laws
-- what functions inside the crate promise each other
pub mod Seen
