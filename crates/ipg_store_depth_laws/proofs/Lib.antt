pub mod Nesting
pub mod Names
pub mod Lefts
pub mod Whole
