pub mod Firsts
pub mod Opened
pub mod Once
pub mod Saved
pub mod Joined
