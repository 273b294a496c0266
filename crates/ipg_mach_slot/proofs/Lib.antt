pub mod Calling
pub mod Slots
pub mod Picks
pub mod Reading
