pub mod Lists
pub mod Conditions
pub mod Bytes
pub mod Counts
