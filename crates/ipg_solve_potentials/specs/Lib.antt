-- What the public contracts rest on.
pub mod Falls
-- What functions inside the crate promise each other.
pub mod Trails
