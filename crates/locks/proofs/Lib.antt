pub mod FirstFound
pub mod LiteralCells
pub mod AddedRows
pub mod CompiledRows
pub mod KeptRows
pub mod LockSegments
pub mod UsedRows
