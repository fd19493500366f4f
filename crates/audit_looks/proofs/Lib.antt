pub mod Audits
mod Reports
mod StaticSheets
mod Stories
mod Swaps
