-- what an evaluation counts, in words of what the grammar means
pub mod Counts
-- which keys have to run where some are known
pub mod Kept
-- how many calls are open at once where some are known
pub mod Depth
-- what its tally comes to
pub mod Laws
-- bytes that stand in the input
pub mod Standing
