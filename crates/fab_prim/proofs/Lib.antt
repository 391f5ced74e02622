pub mod Pins
pub mod Instance
pub mod LutWorks
pub mod PadWorks
pub mod MuxWorks
pub mod Works
