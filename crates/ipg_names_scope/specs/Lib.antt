-- the rules of a text, the names of terms, and what a name means at a place
pub mod Roster
pub mod Terms
pub mod Nearest
pub mod Primitives
pub mod Scope
-- the names of attributes
pub mod Names
-- what tables say: of rules, of terms, of attributes, of a term's names
pub mod Marks
pub mod View
pub mod Fields
pub mod Lookup
pub mod Site
-- the laws that public functions promise
pub mod Laws
