pub mod Threads
pub mod Table
pub mod Links
pub mod LinkTable
pub mod LinksAt
pub mod Theory
