mod Growth
mod Lines
mod Sameness
mod Ways
