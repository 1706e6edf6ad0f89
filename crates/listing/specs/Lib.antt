pub mod Numbers
pub mod Theorems
pub mod Internal
