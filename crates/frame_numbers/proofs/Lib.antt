mod Places
mod Numbers
