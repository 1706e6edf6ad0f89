pub mod Examples
pub mod StoredSums
