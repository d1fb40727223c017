pub mod ByCall
pub mod Calls
pub mod Whole
