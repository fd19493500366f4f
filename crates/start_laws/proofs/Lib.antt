mod Starts
mod Bytes
