pub mod Conflicts
pub mod Tests
pub mod RowLists
pub mod Found
pub mod ApartRows
pub mod Last
pub mod Ranges
pub mod Kept
