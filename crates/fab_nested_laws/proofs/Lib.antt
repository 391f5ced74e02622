pub mod Stands
pub mod Clocks
pub mod Lifted
pub mod Sets
pub mod Driven
pub mod Next
pub mod InTurn
pub mod LoadingTakes
