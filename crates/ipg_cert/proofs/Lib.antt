pub mod Sums
pub mod Sound
pub mod Root
pub mod TotalsLemmas
pub mod SeenLemmas
pub mod Absurd
pub mod GoalsLemmas
-- the words of refutations
pub mod Spelled
pub mod Begun
pub mod Runs
pub mod Read
