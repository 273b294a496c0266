-- n pieces end to end
pub mod EachLemmas
pub mod LengthLemmas
