-- The rows of a fabric file, row by row, where each tile is known by its block.
use Rattle.std.proofs.Common.{◌≡◌, ℕ, Bool, true, false, ◌&&◌, List, [], ◌∷◌, ◌++◌, Result, Ok, Err, refl}
use Rattle.std.proofs.lemmas.Bool.{and_parts}
use Rattle.fab_base.specs.declared.problem.Problem.{Problem}
use Rattle.fab_desk.specs.Files.{Map}
use Rattle.fab_rows.specs.Rows.{PlainRow}
use Rattle.fab_model.specs.Tiles.{PlainTile}
use Rattle.fab_blocks.specs.Blocks.{PlainBlock}
use Rattle.fab_blocks.specs.Reading.{PlainReading, PlainHolder, start, with_type}
use Rattle.fab_blocks.specs.Saying.{Step, said_of}
use Rattle.fab_blocks.specs.declared.standing.Said.{Said}
use Rattle.fab_blocks.specs.declared.standing.Said.TheVariants as said
use Rattle.fab_read.specs.Tiles.{ReadsTile}
use Rattle.fab_read.specs.Rows.{ReadsRows, ends, takes_row, ends_tile}

-- what was read then, the blocks that ended, and whether each row was one of these
pub record Outcome : Type 0 where
  pub reading : PlainReading
  pub blocks : List PlainBlock
  pub is_fine : Bool

abbrev pub after_deed : (tile_of : PlainBlock → PlainTile) → PlainReading → Said → Outcome
after_deed tile_of next said.Taken = record { reading = next; blocks = []; is_fine = true }
after_deed tile_of next (said.EndsTile block) = record { reading = with_type next (tile_of block); blocks = block ∷ []; is_fine = true }
after_deed tile_of next _ = record { reading = next; blocks = []; is_fine = false }

abbrev pub after_step : (tile_of : PlainBlock → PlainTile) → Result Step Problem → Outcome
after_step tile_of (Ok step) = after_deed tile_of step.0 step.1
after_step tile_of (Err problem) = record { reading = start; blocks = []; is_fine = false }

abbrev pub joined : Outcome → Outcome → Outcome
joined first rest = record { reading = rest.reading; blocks = first.blocks ++ rest.blocks; is_fine = first.is_fine && rest.is_fine }

abbrev pub run : (tile_of : PlainBlock → PlainTile) → PlainHolder → PlainReading → List PlainRow → Outcome
run tile_of holder reading [] = record { reading = reading; blocks = []; is_fine = true }
run tile_of holder reading (row ∷ rows) =
    let first = after_step tile_of (said_of reading holder row) in
    joined first (run tile_of holder first.reading rows)

-- a block has its tile, whichever row ends it
abbrev pub HasTile : Map → PlainHolder → (tile_of : PlainBlock → PlainTile) → PlainBlock → Type 0
HasTile files holder tile_of block = (line : ℕ) → ReadsTile files (record { file = holder.file; line = line; left = holder.left }) block (tile_of block)

abbrev pub HaveTiles : Map → PlainHolder → (tile_of : PlainBlock → PlainTile) → List PlainBlock → Type 0
HaveTiles files holder tile_of [] = Unit {0}
HaveTiles files holder tile_of (block ∷ blocks) = HasTile files holder tile_of block × HaveTiles files holder tile_of blocks

module _ (files : Map) (tile_of : PlainBlock → PlainTile) (holder : PlainHolder) where
  both_have : (first rest : List PlainBlock) → HaveTiles files holder tile_of (first ++ rest) → HaveTiles files holder tile_of first × HaveTiles files holder tile_of rest
  both_have [] rest have = (tt, have)
  both_have (block ∷ first) rest have = let behind = both_have first rest have.1 in ((have.0, behind.0), behind.1)

  deed_reads : (before next : PlainReading) (row : PlainRow) (rows : List PlainRow) (says : Said) (last : PlainReading) → said_of before holder row ≡ Ok (next, says) →
      (after_deed tile_of next says).is_fine ≡ true → HaveTiles files holder tile_of (after_deed tile_of next says).blocks → ReadsRows files holder (after_deed tile_of next says).reading rows last →
      ReadsRows files holder before (row ∷ rows) last
  deed_reads before next row rows said.Taken last is fine known rest = takes_row is rest
  deed_reads before next row rows (said.EndsTile block) last is fine known rest = ends_tile is (known.0 row.line) rest
  deed_reads before next row rows _ last is fine known rest = absurd cc

  step_reads : (before : PlainReading) (row : PlainRow) (rows : List PlainRow) (result : Result Step Problem) (last : PlainReading) → said_of before holder row ≡ result →
      (after_step tile_of result).is_fine ≡ true → HaveTiles files holder tile_of (after_step tile_of result).blocks → ReadsRows files holder (after_step tile_of result).reading rows last →
      ReadsRows files holder before (row ∷ rows) last
  step_reads before row rows (Ok step) last is fine known rest = deed_reads before step.0 row rows step.1 last is fine known rest
  step_reads before row rows (Err problem) last is fine known rest = absurd cc

  pub run_reads : (reading : PlainReading) (rows : List PlainRow) → (run tile_of holder reading rows).is_fine ≡ true → HaveTiles files holder tile_of (run tile_of holder reading rows).blocks →
      ReadsRows files holder reading rows (run tile_of holder reading rows).reading
  run_reads reading [] fine known = ends
  run_reads reading (row ∷ rows) fine known =
      let first : Outcome = after_step tile_of (said_of reading holder row) in
      let rest : Outcome = run tile_of holder first.reading rows in
      let parts = and_parts first.is_fine rest.is_fine fine in
      let apart = both_have first.blocks rest.blocks known in
      step_reads reading row rows (said_of reading holder row) rest.reading refl parts.0 apart.0 (run_reads first.reading rows parts.1 apart.1)
