pub mod Grammar
pub mod Operators
pub mod Rules
pub mod Sentences
