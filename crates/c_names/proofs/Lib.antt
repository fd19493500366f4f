pub mod Cuts
pub mod ObjectLemmas
pub mod Once
pub mod OrderLemmas
pub mod PathTexts
pub mod TextLemmas
pub mod WayLemmas
pub mod WordLemmas
