pub mod PrintedLines
pub mod Once
pub mod Places
pub mod Columns
pub mod Taking
pub mod Spelling
pub mod ReadBack
