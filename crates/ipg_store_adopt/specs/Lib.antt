-- when a grammar is well formed, as a test
pub mod WellFormed
-- the good grammar of a body
pub mod Adopted
-- the law that a public function promises
pub mod Laws
-- what functions inside the crate promise each other
pub mod Place
pub mod Slots
