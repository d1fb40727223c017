pub mod Booleans
pub mod Numbers
pub mod Options
pub mod Tables
pub mod Stores
