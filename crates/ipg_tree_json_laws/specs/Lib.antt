-- laws: one JSON text is of one printed tree
pub mod Laws
