-- the laws that public functions promise
pub mod Laws
