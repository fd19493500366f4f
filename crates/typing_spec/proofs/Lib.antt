mod Computing
mod Held
mod One
mod Read
