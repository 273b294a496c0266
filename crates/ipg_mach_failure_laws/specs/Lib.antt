-- what is told with a memo and without
pub mod Laws
