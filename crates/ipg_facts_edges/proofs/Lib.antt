pub mod Few
pub mod Branches
