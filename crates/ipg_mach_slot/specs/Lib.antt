-- the environments that an open call stands for
pub mod Now
-- what a slot comes to
pub mod Found
