-- What functions inside the crate promise each other.
pub mod Gone
