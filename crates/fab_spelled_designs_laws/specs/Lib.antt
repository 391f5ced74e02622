pub mod PortLaws
pub mod DesignLaws
