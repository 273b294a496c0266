mod Lists
mod Mentions
mod Terms
mod Turns
mod Keeping
