-- an evaluation that goes move by move
pub mod Moves
-- what its moves lead to
pub mod Laws
