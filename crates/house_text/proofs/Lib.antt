pub mod Given
pub mod Turns
pub mod NoDay
