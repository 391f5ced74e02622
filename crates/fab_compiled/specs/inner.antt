-- What only contracts inside the crate cite: how its code keeps and counts. No call that it hands on rests on these files.
pub mod Picks
pub mod Indices
pub mod Pairs
pub mod Looked
pub mod Joining
