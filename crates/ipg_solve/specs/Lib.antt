-- What the public contract rests on.
pub mod Decides
pub mod Differences
-- What the law says.
pub mod Laws
-- What functions inside the crate promise each other.
pub mod Domains
pub mod Closes
pub mod Cuts
pub mod Crossed
pub mod Within
pub mod Edges
pub mod Widened
