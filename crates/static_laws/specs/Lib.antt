pub mod Low
pub mod Apart
pub mod NeverRaces
pub mod LawfulSizes
pub mod WholePrograms
