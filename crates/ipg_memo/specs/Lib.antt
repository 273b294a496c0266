-- What the public contracts rest on.
pub mod Keyed
pub mod Moved
-- How rows lie in memory: what functions inside the crate promise each other.
pub mod Filled
pub mod Chunks
-- How keys are found.
pub mod Linked
pub mod Table
pub mod Places
pub mod Parted
pub mod Ways
