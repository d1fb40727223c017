pub mod Widths
pub mod Unicode151
pub mod Unicode160
pub mod Editions
pub mod Rules
