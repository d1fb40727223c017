pub mod Pages
pub mod Renders
pub mod Summed
pub mod Turned
pub mod TurnedNests
pub mod StopsMeasured
