-- that a gap without a solution has a refutation
pub mod Refuted
