pub mod Calls
pub mod Ranks
pub mod State
pub mod Steps
pub mod Law
