-- what `help` and `version` write
pub mod Help
