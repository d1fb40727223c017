pub mod SoFar
pub mod HandedOn
pub mod Margin
