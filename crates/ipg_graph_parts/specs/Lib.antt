-- what the public call rests on
pub mod Cyclic
-- what functions inside the crate promise each other
pub mod Chain
pub mod Way
pub mod Labels
pub mod Parts
pub mod Finished
