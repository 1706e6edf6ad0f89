pub mod Declines
pub mod Examples
pub mod ReadsBack
pub mod ReadsInOrder
pub mod Rebuilds
pub mod Refuses
pub mod WritesBack
