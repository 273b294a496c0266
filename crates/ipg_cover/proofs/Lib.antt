pub mod Flags
pub mod Fixed
pub mod Once
pub mod Tried
