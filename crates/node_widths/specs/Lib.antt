pub mod Summed
pub mod Measured
