pub mod ByCall
pub mod ByFile
pub mod Calls
pub mod Steps
pub mod Whole
pub mod Within
