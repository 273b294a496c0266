-- What the public contracts rest on.
pub mod Lexical
pub mod Shaped
-- What functions inside the crate promise each other.
pub mod Within
pub mod Scanning
