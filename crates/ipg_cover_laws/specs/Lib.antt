-- rules that calls lead to
pub mod Reaches
-- places that the leaves of a tree miss
pub mod Missed
-- grammars that leave no byte out
pub mod Gapless
-- and what a refuted gap of each alternative promises
pub mod Covered
