pub mod Search
pub mod Printed
