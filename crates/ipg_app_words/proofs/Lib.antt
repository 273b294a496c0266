pub mod Digits
pub mod Requests
