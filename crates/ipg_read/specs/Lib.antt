-- What functions inside the crate promise each other.
pub mod Counted
pub mod Built
pub mod Told
pub mod Outcomes
