mod Enumerators
pub mod Names
mod Prototypes
