-- how deep the expressions of a text's core grammar nest
pub mod Shallow
