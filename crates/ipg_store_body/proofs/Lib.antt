pub mod Loops
pub mod Codec
pub mod Symbols
pub mod Exprs
pub mod Bodies
pub mod Written
pub mod Bare
pub mod Shallow
