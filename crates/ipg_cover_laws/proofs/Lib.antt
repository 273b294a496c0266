-- what the answer of a run says of its parts
pub mod Runs
-- results of calls that were asked
pub mod Results
-- the alternative that a tree is of
pub mod Alternatives
-- places that leaves cover
pub mod Covers
-- grammars that leave no byte out
pub mod Gapless
-- grammars whose gaps are refuted
pub mod Covered
