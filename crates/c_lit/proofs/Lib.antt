pub mod CharacterList
pub mod Numbers
