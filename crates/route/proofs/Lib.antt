pub mod AccessConditions
pub mod ArrayTests
