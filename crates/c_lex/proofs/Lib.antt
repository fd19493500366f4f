pub mod LexedPieces
pub mod Literals
pub mod Spans
pub mod Tables
