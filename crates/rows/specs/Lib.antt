pub mod Rows
pub mod Listing
pub mod Making
pub mod Notation
pub mod Theorems
pub mod Internal
