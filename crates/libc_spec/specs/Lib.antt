pub mod Directives
pub mod Formatted
pub mod Library
pub mod Print
pub mod PrintSamples
pub mod Samples
