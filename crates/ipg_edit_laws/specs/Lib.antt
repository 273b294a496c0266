-- what an edit does to the bytes and the places of an input
pub mod Edited
-- laws: the bytes of parts, and the trees over them
pub mod Laws
-- answers that stay known
pub mod Known
