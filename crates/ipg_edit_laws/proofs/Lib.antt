pub mod Bytes
pub mod Trees
pub mod Knowing
