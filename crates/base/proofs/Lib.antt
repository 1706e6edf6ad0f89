pub mod Conditions
pub mod Lists
pub mod Greatest
pub mod Parts
pub mod Scans
pub mod Truth
