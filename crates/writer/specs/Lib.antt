pub mod Appends
pub mod Codes
pub mod Steps
pub mod Put
pub mod Wrote
pub mod Stands
pub mod Parts
