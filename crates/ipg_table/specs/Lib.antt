-- the rows of an expression
pub mod Code
-- the tables, and the grammar that they stand for
pub mod Rows
-- what holds of tables
pub mod Laws
-- what functions inside promise each other: growing tables, and what rows compute on a stack
pub mod Grows
pub mod Running
pub mod Stack
pub mod Hand
