pub mod Deciding
pub mod Newest
pub mod Theorems
pub mod Internal
