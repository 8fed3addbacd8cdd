pub mod Views
pub mod Edits
