mod Balances
mod Growing
mod Places
mod Makings
mod Sums
mod Taken
