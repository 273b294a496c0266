-- where bytes first aren't a spelling
pub mod Faults
-- what a reader finds, and when it reads a spelling exactly
pub mod Found
pub mod Exact
-- numbers, texts and lists
pub mod Laws
-- laws over values of any type, which no clause can state: how exact readers are put together, and what one finds of all bytes
pub mod Steadily
pub mod Chains
pub mod Whole
pub mod Stepwise
pub mod Digits
