pub mod Lex
pub mod Seen
pub mod Line
pub mod Theorems
pub mod Numbers
pub mod Steps
