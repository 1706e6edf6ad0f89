pub mod Examples
pub mod InNumbers
