pub mod Room
pub mod Fill
pub mod Columns
pub mod Graph
pub mod Making
pub mod View
