pub mod Erased
pub mod OneCall
pub mod EveryList
