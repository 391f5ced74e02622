pub mod Sameness
pub mod TextLines
pub mod JudgedRows
pub mod Statements
pub mod PlacedItems
pub mod DrivenOnce
pub mod OrderedCovers
pub mod WholeTexts
pub mod NamedNetlists
pub mod TaggedWords
pub mod SampleTexts
pub mod SampleItems
pub mod ShortTexts
pub mod SampleNetlists
pub mod SampleStimuli
pub mod Runs
pub mod ListRuns
pub mod Blocks
pub mod Lists
pub mod TilesRead
pub mod Selected
pub mod Sizes
pub mod Assembled
pub mod Counted
mod Sums
mod Printed
mod Words
mod Types
mod Tops
mod LineBytes
mod TopBytes
mod Counts
mod TopCounts
mod Tiles
mod Grids
pub mod Small
pub mod Designs
pub mod Ready
pub use Rattle.fab_read.proofs.FabricsOnce as fab_read_FabricsOnce
