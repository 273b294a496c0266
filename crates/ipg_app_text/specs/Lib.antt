-- what the program says, and of a text that has no core grammar
pub mod Code
pub mod Said
pub mod Refusal
-- the core grammar of a text
pub mod CoreOf
-- where and why a text has none, for a person
pub mod Reasons
-- in which order files are read and answers found
pub mod Order
pub mod Steps
pub mod Settles
-- what functions promise each other
pub mod Lines
pub mod Early
pub mod Seen
pub mod Found
-- lemmas over these, for the crates above too
pub mod Instead
pub mod Reasoned
