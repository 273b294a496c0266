-- what the public contracts rest on: tokens by class, grammars as written with their tokens, what they are, and their limits
pub mod Classes
pub mod Written
pub mod Grammars
pub mod Limits
pub mod Bare
-- a fact with its proof: operators between operands bind less tightly than prefixes
pub mod Levels
-- the machine that reads tokens, whatever it makes, and what it counts and makes
pub mod Machine
pub mod Counting
pub mod Making
-- the answer for a text
pub mod Reading
-- the laws that public functions promise
pub mod Laws
