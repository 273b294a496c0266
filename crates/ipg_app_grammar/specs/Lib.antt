-- whether parsing by it ends, and certificates that it does
pub mod Checks
pub mod Certificate
-- where and why a grammar is refused, for a person; what is written for help
pub mod Judged
pub mod Explained
pub mod Followed
pub mod Helped
-- table files
pub mod Tables
-- grammars that leave no byte out
pub mod Covering
-- in which order the commands answer
pub mod Commands
