-- cycles that can be walked on one length of the part, and the first of them
pub mod Loops
-- laws
pub mod Laws
-- what functions inside the crate promise each other
pub mod Refuted
