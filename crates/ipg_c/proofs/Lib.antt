pub mod Texts
pub mod Replying
pub mod Batches
