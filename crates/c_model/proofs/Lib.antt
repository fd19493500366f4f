pub mod Ranks
pub mod Decided
pub mod Closed
pub mod Listed
pub mod Later
mod Reach
pub mod MachineRuns
pub mod MachineOrders
mod LaterChoices
mod LaterPicks
mod Operands
mod TwoEvents
pub mod Updates
pub mod Halves
mod Numbers
mod ReturnZero
pub mod FramesKeep
pub mod GoesOn
pub mod FindingsTrue
pub mod OpenKeeps
