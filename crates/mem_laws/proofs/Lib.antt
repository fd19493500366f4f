mod Touches
pub mod Scripts
pub mod MoreRows
pub mod MoreActs
pub mod MoreCalls
pub mod MoreFormats
pub mod ApartRows
