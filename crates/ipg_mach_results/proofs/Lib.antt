-- children one by one
pub mod Lists
-- children that are no arrays and no repetitions
pub mod Alone
-- what children touch together
pub mod Touching
-- ends of 63 bits
pub mod Short
-- how deep stored children lie
pub mod Deep
