pub mod Buffer
pub mod Rooms
pub mod Places
pub mod Marks
pub mod Bounds
pub mod Texts
pub mod Steps
pub mod Singles
