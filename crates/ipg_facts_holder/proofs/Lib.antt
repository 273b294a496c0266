pub mod Mentions
pub mod Rounds
pub mod Marking
pub mod Wanted
pub mod Needs
