pub mod Exactly
pub mod Examples
pub mod FromHistory
pub mod HandedOut
pub mod KeySets
pub mod Neighbours
