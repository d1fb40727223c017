pub mod Batch
pub mod Whole
pub mod Singles
