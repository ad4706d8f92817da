mod Found
mod Sums
mod Remaking
mod Places
