mod Open
mod Passing
mod Growing
mod Visiting
