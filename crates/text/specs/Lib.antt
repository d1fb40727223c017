pub mod Utf8
pub mod Space
pub mod Newlines
