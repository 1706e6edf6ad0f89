pub mod Letters
pub mod Calls
pub mod Requests
pub mod Numbers
pub mod Theorems
pub mod Internal
