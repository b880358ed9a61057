mod Calls
mod Places
mod Tails
