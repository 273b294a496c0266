-- cases on what can't be decided
pub mod Classical
pub mod Answering
-- the core grammar of a text
pub mod Lists
pub mod Ordering
pub mod Orders
pub mod Limits
pub mod Cores
-- whether parsing by it ends
pub mod Cycles
pub mod Solutions
pub mod Checking
pub mod Reasons
-- whether it leaves no byte out
pub mod Covering
-- what it means on an input
pub mod Meanings
pub mod Shows
pub mod Fresh
pub mod Editing
pub mod Findings
pub mod Samples
pub mod Trials
-- texts and files
pub mod Readers
pub mod Texts
pub mod Judging
pub mod Loading
-- the whole
pub mod Replying
pub mod Headline
