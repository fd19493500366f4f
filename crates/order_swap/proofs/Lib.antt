mod Choices
mod Copies
mod Lists
mod Places
