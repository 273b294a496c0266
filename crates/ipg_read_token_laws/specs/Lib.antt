pub mod Forms
pub mod Back
pub mod Falls
