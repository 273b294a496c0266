pub mod Nones
pub mod Sound
pub mod Alive
pub mod Calling
pub mod Ending
pub mod Telling
pub mod Among
