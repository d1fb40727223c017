pub mod Numbers
pub mod Reading
pub mod Differences
