pub mod Levels
pub mod Circles
pub mod Lowered
