pub mod Ordered
pub mod Rising
pub mod Listing
pub mod Whole
