pub mod Halts
pub mod Limits
pub mod Measure
pub mod Output
pub mod Run
pub mod Writing
