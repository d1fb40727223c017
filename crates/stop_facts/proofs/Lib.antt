pub mod Joined
pub mod RowComments
pub mod AtStop
pub mod LaidRows
pub mod SoFar
mod Small
mod Leaves
mod OpenRows
mod Turns
mod Listed
mod Start
mod Answered
pub mod HandedOn
pub mod AtBound
pub mod EachStop
pub mod MarginPens
pub mod MarginEntry
pub mod MarginRows
pub mod MarginDone
pub mod MarginBehind
pub mod MarginCalls
pub mod MarginOver
