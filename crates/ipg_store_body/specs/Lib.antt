-- how a grammar is written as a body
pub mod Format
-- what a body may hold
pub mod Fits
-- laws that public functions promise
pub mod Laws
-- what functions inside the crate promise each other
pub mod Reading
