pub mod Field
pub mod Form
