mod Lists
mod Options
mod Touching
mod Noting
pub mod Noted
mod Grouping
mod Reading
mod Right
mod Settled
mod Cycle
mod Making
