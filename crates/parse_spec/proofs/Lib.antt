pub mod Adding
pub mod AddingRules
pub mod AddingUnits
pub mod Read
pub mod Scoping
