pub mod Occurring
pub mod Bounds
pub mod Counting
pub mod Order
