pub mod Places
pub mod Found
pub mod Lists
pub mod Readers
pub mod Digits
pub mod Lines
pub mod Whole
pub mod Ends
pub mod Worth
pub mod Wider
pub mod Parts
pub mod Graphs
pub mod Alive
pub mod Shapes
pub mod Speaks
mod Once
mod OneText
