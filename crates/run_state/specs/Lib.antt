pub mod Meaning
pub mod Stands
pub mod Operands
pub mod Faults
