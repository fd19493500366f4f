pub mod Control
pub mod Asked
