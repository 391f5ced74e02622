pub mod Edges
pub mod Trees
pub mod Roots
pub mod Cells
pub mod CellOrder
pub mod EachPoint
pub mod Values
pub mod Carried
pub mod Rules
pub mod Ranks
pub mod LatchCells
pub mod Start
pub mod Setting
pub mod DesignRank
pub mod Instants
pub mod CyclesRun
pub mod Behind
pub mod Feeding
pub mod Headline
pub use Rattle.fab_points_laws.proofs.fab_drives_laws_Apart as fab_drives_laws_Apart
pub use Rattle.fab_points_laws.proofs.fab_drives_laws_Modules as fab_drives_laws_Modules
pub use Rattle.fab_points_laws.proofs.fab_drives_laws_Places as fab_drives_laws_Places
pub use Rattle.fab_points_laws.proofs.fab_drives_laws_Texts as fab_drives_laws_Texts
pub use Rattle.fab_points_laws.proofs.fab_legal_Members as fab_legal_Members
pub use Rattle.fab_points_laws.proofs.Bels as fab_points_laws_Bels
pub use Rattle.fab_points_laws.proofs.Borders as fab_points_laws_Borders
pub use Rattle.fab_points_laws.proofs.Boolean as fab_points_laws_Boolean
pub use Rattle.fab_points_laws.proofs.Configuration as fab_points_laws_Configuration
pub use Rattle.fab_points_laws.proofs.Covers as fab_points_laws_Covers
pub use Rattle.fab_points_laws.proofs.EachSource as fab_points_laws_EachSource
pub use Rattle.fab_points_laws.proofs.Loading as fab_points_laws_Loading
pub use Rattle.fab_points_laws.proofs.Matrix as fab_points_laws_Matrix
pub use Rattle.fab_points_laws.proofs.Origins as fab_points_laws_Origins
pub use Rattle.fab_points_laws.proofs.Pads as fab_points_laws_Pads
pub use Rattle.fab_points_laws.proofs.Places as fab_points_laws_Places
pub use Rattle.fab_points_laws.proofs.Primitives as fab_points_laws_Primitives
pub use Rattle.fab_points_laws.proofs.ReadPoints as fab_points_laws_ReadPoints
pub use Rattle.fab_points_laws.proofs.Registers as fab_points_laws_Registers
pub use Rattle.fab_points_laws.proofs.Resets as fab_points_laws_Resets
pub use Rattle.fab_points_laws.proofs.Sourced as fab_points_laws_Sourced
pub use Rattle.fab_points_laws.proofs.fab_text_sound_laws_Ends as fab_text_sound_laws_Ends
