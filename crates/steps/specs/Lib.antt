pub mod Steps
pub mod Writer
pub mod OfImage
pub mod Exact
pub mod Rows
