pub mod Lists
mod Growing
mod KeptGates
mod Closing
mod Steps
mod Waiting
pub mod Settling
mod Keeping
mod Asking
mod Finding
mod Rooms
mod Blank
mod Starting
mod Formed
mod Beside
mod Copied
mod Copying
