-- What the public contracts rest on.
pub mod Facts
pub mod Checks
pub mod Laws
pub mod Told
pub mod Words
pub mod Texts
pub mod Totals
pub mod Seen
-- What functions inside the crate promise each other.
pub mod Goals
pub mod Reader
pub mod Reading
