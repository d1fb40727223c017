pub mod Turns
pub mod Accounts
pub mod Front
