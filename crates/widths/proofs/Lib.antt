pub mod Ordered
pub mod Search
pub mod Follows
pub mod Narrow
pub mod Adding
pub mod Editions
pub mod ByRule
pub mod Examples
