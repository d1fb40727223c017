pub mod Whole
pub mod Reply
