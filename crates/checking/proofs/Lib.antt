pub mod Examples
pub mod DecidingRow
pub mod KeyCells
pub mod NewestFrames
pub mod LoopSteps
