-- what a parse over kept keys comes to
pub mod Answering
-- what a memo holds through an edit
pub mod Keeping
-- what a session knows through an edit
pub mod Editing
