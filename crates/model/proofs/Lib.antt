pub mod Agreement
pub mod Refinement
pub mod Computed
pub mod Keys
pub mod Limits
pub mod Neighbours
pub mod Refusals
pub mod Unfoldings
