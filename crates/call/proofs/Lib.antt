pub mod Texts
pub mod Requests
pub mod Examples
pub mod TableLines
pub mod Values
pub mod EveryRequest
pub mod Unfoldings
