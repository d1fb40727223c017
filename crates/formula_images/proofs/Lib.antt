pub mod Counted
pub mod Splits
pub mod Fitting
pub mod Steps
pub mod Laid
pub mod Answered
pub mod Claimed
