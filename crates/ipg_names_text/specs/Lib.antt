-- what the law says
pub mod Laws
