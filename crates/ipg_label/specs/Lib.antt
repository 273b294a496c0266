-- what an expression reads of a term, where it reads that and nothing else
pub mod Reading
-- the name of a term by the attributes that read it
pub mod Naming
-- the names of a node's children
pub mod Labels
