-- when the names of a grammar can be resolved
pub mod Readable
-- which of several faults is told
pub mod Fault
-- the resolved grammar, the faults
pub mod Resolved
pub mod Faults
-- what a resolved grammar keeps
pub mod Bare
-- the laws that public functions promise: which fault is told, where names stand, what each refusal says of its place
pub mod Told
pub mod Uses
pub mod Refusals
pub mod Laws
-- what functions inside the crate promise each other
pub mod Heads
pub mod Judged
