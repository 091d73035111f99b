mod Strange
mod Unique
