-- texts of items, in turn
pub mod Turns
-- notes are one, and can't be missing
pub mod Alike
-- the parts of what is noted
pub mod Parts
