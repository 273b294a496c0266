-- scripts and their texts, and where a text first isn't one
pub mod Scripts
-- what functions inside the crate promise each other
pub mod Reader
pub mod Reading
-- laws
pub mod Laws
