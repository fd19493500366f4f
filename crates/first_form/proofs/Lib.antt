pub mod Constants
pub mod NextTokens
pub mod ReadTokens
pub mod Runs
pub mod Spellings
pub mod Sentences
