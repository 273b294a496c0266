pub mod Rounds
pub mod Passes
pub mod Few
pub mod Limits
pub mod Searches
pub mod First
