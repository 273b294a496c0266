-- repetitions that may touch no byte
pub mod Loose
-- and in words, which one it finds
pub mod First
-- what holds of marks
pub mod Laws
-- what functions inside the crate promise each other
pub mod Pass
pub mod Few
