-- what a walk has left, step by step
pub mod Walking
-- the first visit
pub mod First
