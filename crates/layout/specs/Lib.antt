pub mod Layout
pub mod Closing
pub mod Promises
pub mod Elems
pub mod Forms
pub mod Ranks
pub mod Chains
pub mod Numbers
