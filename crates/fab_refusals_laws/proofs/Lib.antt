pub mod BrokenFirsts
pub mod Items
pub mod Rules
pub mod RefusedFirsts
