-- what an input comes to
pub mod Coming
