pub mod Values
pub mod Strings
pub mod Fronts
pub mod Lexemes
