pub mod Refusals
-- What contracts say of a reader of pieces; it is defined by the machine in `inner`.
pub mod Pieces
pub mod inner
