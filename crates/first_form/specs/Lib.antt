pub mod Bytes
pub mod Form
pub mod Grammar
pub mod Tokens
