-- a formula within the limits that has no solution has a refutation
pub mod Refuting
