pub mod Comments
pub mod Listed
pub mod Parsed
pub mod Record
pub mod AllIn
pub mod Records
