pub mod BetweenFirst
pub mod FirstLemmas
pub mod SegmentLemmas
