-- a trial on a sample
pub mod Trial
-- in which order the program answers, and what it does outside
pub mod Reply
pub mod Run
-- that there is one reply
pub mod Laws
-- what functions inside the crate promise each other
pub mod Settled
