-- what is found of an evaluation
pub mod Found
-- what holds of that
pub mod Laws
-- the furthest failures as they are kept
pub mod Told
-- what is kept while it is watched
pub mod Watched
-- what functions inside promise each other
pub mod Agreeing
