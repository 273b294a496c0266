pub mod Once
pub mod Stays
