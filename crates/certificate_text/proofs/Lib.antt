pub mod Clauses
pub mod Steps
pub mod Forms
pub mod FrameSteps
pub mod RowSteps
pub mod OrderSteps
pub mod Answered
pub mod Names
