pub mod Format
pub mod Verdicts
pub mod Reading
pub mod Appending
pub mod Theorems
pub mod Internal
