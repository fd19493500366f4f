pub mod AtEnd
pub mod FirstPairs
pub mod Keys
pub mod OneItem
pub mod Bytes
pub mod ByBytes
pub mod LeastOnes
pub mod Strange
