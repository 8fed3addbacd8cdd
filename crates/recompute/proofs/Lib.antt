pub mod Rows
pub mod Sums
pub mod Steps
pub mod Grounds
pub mod Ends
pub mod Passing
pub mod Lents
