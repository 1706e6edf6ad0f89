pub mod Reader
pub mod Readers
