mod NoEnd
mod ProgramEnds
mod ItemsTell
mod Lives
mod ProgramTold
pub mod Asks
pub mod ActsAsk
pub mod ProgramAsks
mod LibraryAsk
pub mod PrintAsks
mod StoreMeet
mod StoreHolds
mod StoreKeeps
mod Permitted
mod RunLimits
mod ProgramLaws
mod RunSteps
mod Traces
mod TraceItems
mod QuietFrames
mod OpenFrames
mod FrameEvents
mod QuietTraces
mod Follows
mod EveryRun
mod CanonicalQuiet
mod CleanFinding
mod Passes
