-- solutions of which one variable has the least value
pub mod Least
-- values that a variable has in every solution
pub mod Sure
-- what holds of them
pub mod Laws
-- boxes with other bounds of a variable
pub mod Narrowed
-- what functions inside the crate promise each other
pub mod Halving
