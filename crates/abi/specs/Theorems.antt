pub mod Examples
pub mod FilesInOrder
pub mod KeyNumbers
