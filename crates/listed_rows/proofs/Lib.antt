pub mod Numbers
pub mod Seeing
pub mod Shut
