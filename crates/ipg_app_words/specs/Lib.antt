-- the commands, as `clap` reads their words
pub mod Commands
-- the values of options
pub mod Settings
-- what the words ask for
pub mod Request
-- what functions inside the crate promise each other
pub mod Seen
