pub mod ArrayTests
pub mod EditConditions
pub mod RemovedKey
