pub mod Examples
pub mod SameNumbers
