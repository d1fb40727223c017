pub mod Front
pub mod Report
