-- what a variable stands for, and that variables which are the same are equal
pub mod Variable
pub mod Induct
pub mod Equality
-- what a variable feeds a hash
pub mod Hashing
