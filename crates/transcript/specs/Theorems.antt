pub mod Enough
pub mod OneTable
pub mod Trials
