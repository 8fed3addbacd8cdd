pub mod Grammar
pub mod Meaning
pub mod Lines
