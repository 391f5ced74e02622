pub mod Loads
pub use Rattle.fab_serial.specs.Delivery as fab_serial_Delivery
pub use Rattle.fab_serial.specs.Module as fab_serial_Module
pub use Rattle.fab_serial.specs.Sending as fab_serial_Sending
pub use Rattle.fab_text_loads_laws.specs.fab_fabric_text_defs_Mode as fab_fabric_text_defs_Mode
pub use Rattle.fab_text_loads_laws.specs.fab_frames_Stream as fab_frames_Stream
pub use Rattle.fab_text_loads_laws.specs.fab_load_runs_laws_Runs as fab_load_runs_laws_Runs
pub use Rattle.fab_nested_laws.specs.Nested as fab_nested_laws_Nested
pub use Rattle.fab_text_loads_laws.specs.fab_prim_Ports as fab_prim_Ports
