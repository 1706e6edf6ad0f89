pub mod FilesInOrder
pub mod Examples
pub mod AnswerCodes
pub mod KeyNumbers
