pub mod Precedence
pub mod Operands
pub mod Verdict
pub mod ReadsBack
pub mod Standing
