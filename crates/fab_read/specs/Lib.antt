pub mod Tiles
pub mod Rows
pub mod Fabrics
pub mod inner
pub use Rattle.fab_blocks.specs.Blocks as fab_blocks_Blocks
pub use Rattle.fab_blocks.specs.Cells as fab_blocks_Cells
pub use Rattle.fab_blocks.specs.Inner as fab_blocks_Inner
pub use Rattle.fab_blocks.specs.Reading as fab_blocks_Reading
pub use Rattle.fab_blocks.specs.Rows as fab_blocks_Rows
pub use Rattle.fab_blocks.specs.Saying as fab_blocks_Saying
pub use Rattle.fab_blocks.specs.Words as fab_blocks_Words
pub use Rattle.fab_blocks.specs.declared.standing.OpenBlock as fab_blocks_standing_OpenBlock
pub use Rattle.fab_blocks.specs.declared.standing.OpenBlock.TheVariants as fab_blocks_standing_OpenBlock_TheVariants
pub use Rattle.fab_blocks.specs.declared.standing.Parameters.TheVariants as fab_blocks_standing_Parameters_TheVariants
pub use Rattle.fab_blocks.specs.declared.standing.Place.TheVariants as fab_blocks_standing_Place_TheVariants
pub use Rattle.fab_blocks.specs.declared.standing.Said as fab_blocks_standing_Said
pub use Rattle.fab_blocks.specs.declared.standing.Said.TheVariants as fab_blocks_standing_Said_TheVariants
pub use Rattle.fab_blocks.specs.declared.words.Word as fab_blocks_words_Word
pub use Rattle.fab_blocks.specs.declared.words.Word.TheVariants as fab_blocks_words_Word_TheVariants
pub use Rattle.fab_list_files.specs.Sides as fab_list_files_Sides
