pub mod Reading
pub mod Agree
pub mod Locality
pub mod Alikes
pub mod Items
pub mod Marks
