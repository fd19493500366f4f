pub mod PersonApp
pub mod PersonAsked
