pub mod Fraction
pub mod Order
pub mod Tallies
