pub mod Discretion
pub mod Examples
pub mod FromHistory
pub mod Refusing
pub mod RowContents
