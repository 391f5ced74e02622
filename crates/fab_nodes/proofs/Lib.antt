pub mod NodesGrow
pub mod Parts
pub mod Kept
pub mod Behind
pub mod Joined
pub mod Walking
