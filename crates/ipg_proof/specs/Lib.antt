-- what a certificate's entries are checked against
pub mod Calls
-- their places
pub mod Places
-- when a certificate proves a grammar, and what is at fault in one that does not
pub mod Proves
-- what a certificate is worth
pub mod Worth
-- that no grammar lost its acceptance
pub mod Wider
-- that it is one of both, for one reason
pub mod Once
-- texts
pub mod Texts
-- that texts can say what proves
pub mod Speaks
-- what the parts inside promise each other
pub mod Seen
pub mod Reads
pub mod Numbers
-- cycles without dead edges
pub mod Cycles
