-- what the public call rests on
pub mod Edges
-- that the numbers of a good grammar's parts fit 32 bits
pub mod Few
