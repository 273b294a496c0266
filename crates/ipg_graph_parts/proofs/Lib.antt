pub mod Both
pub mod GraphLemmas
pub mod ChainLemmas
pub mod WayLemmas
pub mod LabelLemmas
pub mod PartLemmas
pub mod WalkLemmas
pub mod CircleLemmas
