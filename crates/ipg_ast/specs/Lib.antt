-- What the public contracts rest on.
pub mod Spelling
pub mod Canonical
pub mod Shape
-- facts with their proofs: folds over expressions, form by form
pub mod Folds
