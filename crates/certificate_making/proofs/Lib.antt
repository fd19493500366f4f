pub mod Kept
pub mod Made
pub mod Marks
pub mod Numbers
pub mod Rising
