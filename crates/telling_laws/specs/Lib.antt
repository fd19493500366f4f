pub mod FirstFound
pub mod Met
pub mod Newly
pub mod OnlyNew
pub mod OwnEvents
pub mod Samples
pub mod Standing
