pub mod Halts
