-- How the reader of fabrics goes from row to row.
use Rattle.std.specs.Prelude.{◌≡◌, ◌≤◌, ℕ, true, List, ◌∷◌, Option, Some, None, Result, Ok, Err}
use Rattle.fab_base.specs.declared.problem.Problem.{Problem}
use Rattle.fab_desk.specs.Files.{Map}
use Rattle.fab_rows.specs.Rows.{PlainRow}
use Rattle.fab_select.specs.declared.pair.Pair.{Pair as NumberPair}
use Rattle.fab_model.specs.Tiles.{PlainTile, with_pairs}
use Rattle.fab_tables.specs.Lists.{Pair}
use Rattle.fab_lines.specs.Counts.{last_line}
use Rattle.fab_files.specs.Files.{Event}
use Rattle.fab_blocks.specs.Blocks.{PlainBlock, bare}
use Rattle.fab_blocks.specs.Reading.{PlainReading, PlainHolder, HasRoom, with_type}
use Rattle.fab_blocks.specs.declared.standing.OpenBlock.TheVariants as blocks
use Rattle.fab_blocks.specs.declared.standing.Said.{Said}
use Rattle.fab_blocks.specs.declared.standing.Said.TheVariants as said
use Rattle.fab_read.specs.Tiles.{End, block_problem, pairs_problem, paired, ReadsPairs, ReadsTile}
use Rattle.fab_read.specs.Rows.{ReadsRows, MeetsRows, ReadsFile}

-- the pairs of a tile's switch list so far
pub record KnownPairs : Type 0 where
  pub tile : PlainTile
  pub pairs : List Pair

-- ---- tiles

-- a value, unless there is a problem
abbrev pub unless : {X : Type 0} → Option Problem → X → Result X Problem
unless None value = Ok value
unless (Some problem) value = Err problem

abbrev pub judged_tile : PlainBlock → Result (PlainTile × Option (List ℕ)) Problem
judged_tile block = unless (block_problem block) (bare block, block.matrix)

abbrev pub judged_pairs : PlainTile → List NumberPair → Result PlainTile Problem
judged_pairs tile pairs = unless (pairs_problem tile pairs) (with_pairs tile pairs)

-- the tile of a block with its pairs
pub record ReadsPaired (files : Map) (end : End) (block : PlainBlock) (tile : PlainTile) : Type 0 where
  pub pairs : List NumberPair
  pub read : ReadsPairs files end block pairs
  pub fitting : pairs_problem (bare block) pairs ≡ None
  pub is : tile ≡ paired block pairs

-- ---- rows

-- Whatever rows follow, this row leads from the reading before it to that after it.
pub record RowLeads (files : Map) (holder : PlainHolder) (before : PlainReading) (row : PlainRow) (after : PlainReading) : Type 0 where
  pub reads : (rows : List PlainRow) (last : PlainReading) → ReadsRows files holder after rows last → ReadsRows files holder before (row ∷ rows) last
  pub meets : (rows : List PlainRow) (event : Event) → MeetsRows files holder after rows event → MeetsRows files holder before (row ∷ rows) event

-- Whatever rows follow, this is what a reader comes upon in this row.
abbrev pub MeetsRow : (files : Map) (holder : PlainHolder) (before : PlainReading) (row : PlainRow) → Event → Type 0
MeetsRow files holder before row event = (rows : List PlainRow) → MeetsRows files holder before (row ∷ rows) event

-- From this reading all rows come to what the rest of them comes to from that one.
pub record LeadsOn (files : Map) (holder : PlainHolder) (before : PlainReading) (rows : List PlainRow) (here : PlainReading) (rest : List PlainRow) : Type 0 where
  pub reads : (last : PlainReading) → ReadsRows files holder here rest last → ReadsRows files holder before rows last
  pub meets : (event : Event) → MeetsRows files holder here rest event → MeetsRows files holder before rows event

-- a file leads from one reading to another, and this is the number of its last line
abbrev pub ReadsFileTo : (files : Map) (holder : PlainHolder) (before after : PlainReading) → (last : ℕ) → Type 0
ReadsFileTo files holder before after last = (bytes : List ℕ) × ReadsFile files holder before bytes after × (last ≡ last_line bytes)

-- the tile of a block comes to what was read
abbrev pub EndsTile : (files : Map) (end : End) (block : PlainBlock) (before after : PlainReading) → Type 0
EndsTile files end block before after = (tile : PlainTile) × ReadsTile files end block tile × (after ≡ with_type before tile)

-- What is to be known of what a row says: which types there are it leaves as it is; only where one more may be opened a file is included, and only a fabric names files
-- of tiles; and a block that has ended is open no more.
abbrev pub IsSaid : (before : PlainReading) (holder : PlainHolder) (after : PlainReading) → Said → Type 0
IsSaid before holder after said.Taken = after.types ≡ before.types
IsSaid before holder after (said.Includes file) = (after.types ≡ before.types) × (1 ≤ holder.left)
IsSaid before holder after (said.NamesTiles file) = (after.types ≡ before.types) × (holder.is_fabric ≡ true)
IsSaid before holder after (said.EndsTile block) = (after.types ≡ before.types) × (after.begun ≡ blocks.Outside) × HasRoom after.types block.name block.bels
