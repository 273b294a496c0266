-- what a store holds, and the trees that stand in it
pub mod Stored
-- laws of trees that stand
pub mod Laws
