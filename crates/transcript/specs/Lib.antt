pub mod Lines
pub mod Printing
pub mod Theorems
pub mod Internal
