-- What rows that are taken keep of a block.
use Rattle.std.proofs.Common.{◌≡◌, ℕ, true, List, Option, None}
use Rattle.fab_kinds.specs.declared.kind.Kind.{Kind}
use Rattle.fab_desk.specs.Files.{Map}
use Rattle.fab_model.specs.Tiles.{PlainTile}
use Rattle.fab_read.specs.fab_blocks_Cells.{is_tile_name}
use Rattle.fab_read.specs.fab_blocks_Blocks.{PlainBlock, new_block, bare, with_row, with_matrix}
use Rattle.fab_read.specs.fab_blocks_Rows.{WireCells, row_of, wire_problem, bel_problem_of, with_bel_of}
use Rattle.fab_read.specs.Tiles.{End, ReadsTile}

-- A new block has the first, each row that is taken keeps it, and a tile of such a block, with its pairs and the places of its bits, has
-- the second.
pub record Keeps (P Q : PlainTile → Type 0) : Type 0 where
  pub new : (name : List ℕ) → is_tile_name name ≡ true → P (bare (new_block name))
  pub wire : (block : PlainBlock) (cells : WireCells) → P (bare block) → wire_problem block cells ≡ None → P (bare (with_row block (row_of cells)))
  pub bel : (block : PlainBlock) (kind : Option Kind) (holder file prefix : List ℕ) → P (bare block) → bel_problem_of block kind holder file prefix ≡ None → P (bare (with_bel_of block kind prefix))
  pub matrix : (block : PlainBlock) (file : List ℕ) → P (bare block) → P (bare (with_matrix block file))
  pub tile : (files : Map) (end : End) (block : PlainBlock) (tile : PlainTile) → P (bare block) → ReadsTile files end block tile → Q tile
