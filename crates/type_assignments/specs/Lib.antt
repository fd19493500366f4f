pub mod Assignments
