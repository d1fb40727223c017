pub mod Least
pub mod Grown
pub mod Ahead
pub mod Offenders
pub mod Answered
pub mod Claimed
mod Examples
