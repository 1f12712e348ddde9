mod Written
mod Joining
mod Plainly
