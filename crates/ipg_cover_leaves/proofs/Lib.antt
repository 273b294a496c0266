-- what stands in a list that was put together
pub mod Among
-- bytes from a place on
pub mod Places
-- leaves within a length
pub mod Insides
-- bytes that are read off the page
pub mod ReadOff
-- the first that is not so
pub mod Firsts
-- numbers
pub mod Numbered
-- the answer
pub mod Settled
-- leaves as a walk sees them
pub mod Seeing
-- what sits in an input
pub mod Sitting
-- one answer
pub mod Agreed
-- places that leaves cover
pub mod Covered
-- numbers and their bytes
pub mod Numbers
-- a byte more on the page
pub mod Cells
