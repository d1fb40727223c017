pub mod Figures
pub mod Order
