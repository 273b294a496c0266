-- the rules that parsing may come to, and grammars that leave no byte out
pub mod Reach
pub mod Cover
-- laws
pub mod Laws
-- what functions inside the crate promise each other
pub mod Pass
pub mod Gaps
