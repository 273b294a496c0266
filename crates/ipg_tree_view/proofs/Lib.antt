-- what is kept of a text that is put together
pub mod Cuts
-- what a walk shows
pub mod Walked
-- places that no leaf has
pub mod Runs
-- all that is written is plain
pub mod Plain
-- members of a path
pub mod Members
