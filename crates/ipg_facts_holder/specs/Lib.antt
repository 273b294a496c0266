-- which terms of a holder matter
pub mod Holder
-- calls of local rules, and what a caller mentions: what functions inside the crate promise each other
pub mod Calling
pub mod Outers
