pub mod Shown
pub mod Places
pub mod Ways
pub mod Entries
pub mod Matrix
pub mod Primitives
pub mod Bels
pub mod Borders
pub mod Pads
pub mod EachSource
pub mod Boolean
pub mod Loading
pub mod Origins
pub mod Covers
pub mod ReadPoints
pub mod Sourced
pub mod Declares
pub mod Configuration
pub mod Configured
pub mod Registers
pub mod Resets
pub mod Rows
pub mod Laws
pub mod Solved
pub mod Once
pub mod Example
pub use Rattle.fab_use_defs.proofs.fab_drives_laws_Apart as fab_drives_laws_Apart
pub use Rattle.fab_use_defs.proofs.fab_drives_laws_Lists as fab_drives_laws_Lists
pub use Rattle.fab_use_defs.proofs.fab_drives_laws_Modules as fab_drives_laws_Modules
pub use Rattle.fab_use_defs.proofs.fab_drives_laws_Places as fab_drives_laws_Places
pub use Rattle.fab_use_defs.proofs.fab_drives_laws_Texts as fab_drives_laws_Texts
pub use Rattle.fab_use_defs.proofs.fab_legal_Lists as fab_legal_Lists
pub use Rattle.fab_use_defs.proofs.fab_legal_Members as fab_legal_Members
pub use Rattle.fab_use_defs.proofs.fab_legal_Once as fab_legal_Once
pub use Rattle.fab_use_defs.proofs.fab_legal_PackedMade as fab_legal_PackedMade
pub use Rattle.fab_use_defs.proofs.fab_legal_SinkLaw as fab_legal_SinkLaw
pub use Rattle.fab_text_sound_laws.proofs.Ends as fab_text_sound_laws_Ends
pub use Rattle.fab_text_sound_laws.proofs.TopDeclared as fab_text_sound_laws_TopDeclared
pub use Rattle.fab_use_defs.proofs.fab_tile_drives_laws_Members as fab_tile_drives_laws_Members
