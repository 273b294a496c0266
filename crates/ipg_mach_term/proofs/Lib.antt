-- what was found ends by the end of its interval
pub mod Ending
-- a term is made of what was parsed for it
pub mod Making
-- a term is entered
pub mod Entering
-- where a term was entered, and what it is
pub mod Shapes
-- a call that is answered gives what was parsed
pub mod Answered
