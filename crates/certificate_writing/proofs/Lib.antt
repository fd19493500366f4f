mod Entries
mod Runs
mod Stated
mod Stating
