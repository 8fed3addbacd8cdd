pub mod Calendar
pub mod Text
pub mod Theorems
pub mod Dates
pub mod Rules
pub mod Texts
pub mod Values
