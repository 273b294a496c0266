-- where a term was entered, and what it makes of its call
pub mod Advance
-- the parts that this is put together from
pub mod Parts
