pub mod Taking
pub mod Arguments
