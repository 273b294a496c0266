-- what expressions and terms are to the conditions
pub mod Reading
pub mod View
pub mod Members
-- the conditions of an edge
pub mod Keep
-- the places that an alternative's slots leave out
pub mod Gap
pub mod Aim
-- that what is read of an expression names it
pub mod Said
