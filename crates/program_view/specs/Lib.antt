pub mod Trees
pub mod Objects
pub mod Statements
pub mod View
pub mod Laws
pub mod Text
pub mod Build
pub mod Samples
