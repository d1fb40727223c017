pub mod Places
pub mod Listing
pub mod Counting
