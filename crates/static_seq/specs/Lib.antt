pub mod Accesses
pub mod Choices
pub mod Parted
pub mod Verdicts
