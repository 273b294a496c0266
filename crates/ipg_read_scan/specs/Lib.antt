-- What the scan answers, and what functions inside the crate promise each other.
pub mod Lexemes
pub mod Popped
pub mod Rowed
pub mod Asked
pub mod Answered
pub mod Scanned
