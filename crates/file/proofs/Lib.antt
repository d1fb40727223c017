pub mod Steps
pub mod Frames
pub mod Replied
