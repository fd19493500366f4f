pub mod Cells
pub mod Choice
