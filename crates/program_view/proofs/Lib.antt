pub mod Seen
mod Forms
pub mod Equations
mod Texts
mod Building
mod Computing
