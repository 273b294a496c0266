pub mod Digits
pub mod Spelled
pub mod Begun
pub mod Runs
pub mod Answered
