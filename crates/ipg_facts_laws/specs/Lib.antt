-- when facts over variables hold
pub mod Valued
-- what is known of an expression that has a value
pub mod Known
-- what a term that has run says of an environment
pub mod Ran
-- an environment that goes on
pub mod Grows
-- a call that is made on the whole part
pub mod Reached
-- what the laws say
pub mod Laws
-- alternatives whose terms have all run
pub mod Finished
-- places that their results miss
pub mod Missed
-- bounds of joints
pub mod Bounded
-- walks along the edges of a graph
pub mod Walks
-- edges that are reached on parts of one length
pub mod Along
-- their conditions
pub mod Conditions
-- how deep calls nest
pub mod Nest
-- what the laws of ending say
pub mod Ends
-- what the earlier conditions ask
pub mod Before
-- conditions leave no empty choice
pub mod Offers
-- the variables of a gap's formula
pub mod Gapped
-- the limits of its forms
pub mod Light
