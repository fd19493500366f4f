pub mod ConstantMembers
pub mod Finds
pub mod Keywords
pub mod Literals
pub mod MemberNames
pub mod Members
pub mod Parts
