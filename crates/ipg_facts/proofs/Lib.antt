pub mod Puts
pub mod Branches
pub mod Aims
