-- What the outside tells, and what a call on it may answer.
pub mod Faults
pub mod Files
pub mod Sink
-- The outside in memory, where every answer is known.
pub mod Shelf
pub mod Stored
pub mod Tray
-- What the sink over a writer tells.
pub mod Gathered
