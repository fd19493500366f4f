pub mod QuietEvents
pub mod Programs
