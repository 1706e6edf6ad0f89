pub mod Searching
pub mod Theorems
