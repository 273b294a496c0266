-- boxes with other bounds of a variable
pub mod OtherBounds
-- numbers of 64 bits as the code has them
pub mod Words
-- half of the range in which the least value is
pub mod HalfRange
pub mod Halves
-- a value that is had in all solutions
pub mod OtherValues
