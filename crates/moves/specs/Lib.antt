pub mod Moves
pub mod Ways
pub mod Standing
pub mod Moved
pub mod Returns
pub mod Exact
