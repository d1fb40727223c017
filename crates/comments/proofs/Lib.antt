pub mod Accepted
pub mod Fronts
pub mod Pops
pub mod Offsets
