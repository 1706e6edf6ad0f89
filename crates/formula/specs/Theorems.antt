pub mod Examples
pub mod Grammar
pub mod Opening
pub mod Unsatisfiable
pub mod Width
