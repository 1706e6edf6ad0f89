pub mod Examples
pub mod InNumbers
pub mod MadeRows
pub mod MidwayRows
pub mod RowNumbers
