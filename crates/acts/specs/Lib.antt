pub mod Act
pub mod Does
pub mod Laid
pub mod Spelling
