pub mod Adopting
pub mod Advancing
pub mod Beginning
pub mod EveryCall
pub mod Replies
pub mod Standing
pub mod TakingUp
pub mod Ways
