pub mod Apart
pub mod Findings
pub mod Record
