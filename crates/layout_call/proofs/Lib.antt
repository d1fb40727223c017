pub mod Standing
pub mod Ends
pub mod WholeFile
