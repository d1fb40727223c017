pub mod Closes
pub mod Joins
pub mod Laws
pub mod OneRow
pub mod Places
pub mod Nested
