-- what is said of all that stands in rows
pub mod Standing
-- ends as the code keeps them, and those that are small
pub mod Ends
-- children of which items are no arrays and no repetitions
pub mod Flat
-- fields and items, by cases
pub mod Reads
