-- What only contracts inside the crate cite: how its code keeps and counts. No call that it hands on rests on these files.
pub mod Keeping
pub mod Roots
pub mod Tables
pub mod Kept
pub mod Answers
pub mod Standing
