-- where an order gets stuck
pub mod Stuck
-- what ordering answers
pub mod Answer
pub mod Laws
-- what functions inside the crate promise each other
pub mod Needs
pub mod Named
pub mod Callees
pub mod Closure
pub mod Locals
pub mod Reading
pub mod Providers
pub mod Ordered
