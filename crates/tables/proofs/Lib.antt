pub mod Column
pub mod Graphs
pub mod Lends
pub mod Views
