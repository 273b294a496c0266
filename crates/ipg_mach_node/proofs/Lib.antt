-- items and results, one by one
pub mod Growing
-- stores that grow
pub mod Stores
-- items that are past
pub mod Past
-- what children touch lies in their part
pub mod Inside
-- the rows of a node
pub mod Rows
-- the node of an alternative whose terms have all run
pub mod Nodes
