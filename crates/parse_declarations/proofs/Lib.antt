mod Names
mod Steps
