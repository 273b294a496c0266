-- how a file is put together, and what it holds
pub mod File
-- why a file is none
pub mod Faults
-- laws that public functions promise
pub mod Laws
-- what functions inside the crate promise each other
pub mod Steps
