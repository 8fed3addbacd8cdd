pub mod Held
pub mod View
pub mod Making
pub mod Permits
pub mod Calls
