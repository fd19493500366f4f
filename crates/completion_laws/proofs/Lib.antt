pub mod Lists
pub mod Ahead
pub mod Above
pub mod Found
pub mod Last
pub mod Coded
pub mod Noted
