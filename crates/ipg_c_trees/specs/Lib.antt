-- the grammar that is given, and whether parsing by it ends
pub mod Given
-- what inputs come to by it
pub mod Comes
-- the names of a grammar
pub mod Names
