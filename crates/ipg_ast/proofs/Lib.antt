pub mod Texts
pub mod Exprs
pub mod Lists
pub mod Forms
