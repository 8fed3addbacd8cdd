pub mod Tables
pub mod Joined
pub mod Pending
pub mod Lent
