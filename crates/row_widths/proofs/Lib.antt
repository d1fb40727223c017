pub mod Passing
pub mod Row
pub mod Undoing
pub mod Turning
pub mod Summing
pub mod Right
pub mod ByRule
