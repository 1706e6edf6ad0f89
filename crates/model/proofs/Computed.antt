pub mod Examples
pub mod SideBySide
pub mod Trials
