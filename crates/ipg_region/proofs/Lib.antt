pub mod PiecesLemmas
pub mod StackLemmas
pub mod PiledLemmas
pub mod ChunksLemmas
