pub mod Texts
pub mod Words
pub mod Leaves
pub mod Heads
pub mod Trees
