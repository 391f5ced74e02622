pub mod FirstLine
pub mod LastItems
pub mod LineByLine
pub mod Judging
pub mod JoinedLines
pub mod Wholes
pub mod Digits
