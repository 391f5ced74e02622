pub mod Nodes
pub mod Nets
pub mod Tables
pub mod Laws
