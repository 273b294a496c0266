-- What the public contracts rest on.
pub mod Form
pub mod Formula
-- What crates above prove by.
pub mod Members
