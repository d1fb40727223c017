pub mod Divisor
pub mod Order
pub mod Ratio
pub mod Tests
