pub mod Running
pub mod Aside
