-- leaves, and the bytes that they put
pub mod Bytes
-- those of a tree
pub mod Leaves
-- what comes of putting them back
pub mod Back
-- laws
pub mod Laws
-- the places that they cover
pub mod Covers
-- what the page holds while they are put
pub mod Page
