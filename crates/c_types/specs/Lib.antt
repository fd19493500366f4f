pub mod formers
pub mod Kinds
pub mod Layout
pub mod Leaves
pub mod Same
pub mod Shapes
pub mod Table
pub mod Types
