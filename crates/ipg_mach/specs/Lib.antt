-- what open calls have come to, one call's on top of another's
pub mod Piled
-- what the piles promise each other
pub mod Small
-- open calls as frames hold them
pub mod Calls
-- what is lent of the highest call
pub mod Lending
-- what is known of calls
pub mod Known
-- what has been counted
pub mod Counted
-- the machine as an open evaluation
pub mod Stage
-- what a machine remembers at first, and whether it goes on
pub mod Turning
-- what a parse comes to
pub mod Outcome
-- what a parse over what is kept comes to
pub mod Verdict
-- the term at hand as it is lent
pub mod Scene
-- what an evaluation has ended with
pub mod Ended
