pub mod Aside
pub mod Needed
pub mod Restored
pub mod Scratch
pub mod Seen
pub mod Undone
