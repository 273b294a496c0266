pub mod Written
pub mod Meant
pub mod Told
pub mod Hits
pub mod Behind
pub mod Parsing
pub mod Bare
