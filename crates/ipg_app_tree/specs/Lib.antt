-- paths, and what is shown of a tree
pub mod Path
pub mod Queried
pub mod Shown
-- what is answered of an input, and how large its tree is
pub mod Answered
pub mod Parses
pub mod Measured
-- what holds of any tree
pub mod Laws
-- scripts of edits
pub mod Editing
-- what functions promise each other
pub mod Telling
pub mod Out
