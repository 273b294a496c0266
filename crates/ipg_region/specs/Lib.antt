-- What the public contracts rest on.
pub mod Held
-- What the fields of a block promise each other.
pub mod Pieces
-- What the blocks of a region promise each other.
pub mod Stack
-- What a stack holds.
pub mod Stacked
-- What the blocks of a stack promise each other.
pub mod Piled
-- What cells hold.
pub mod Filled
-- What the chunks of cells promise each other.
pub mod Chunks
