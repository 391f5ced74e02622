-- How the reader of lists goes from row to row.
use Rattle.std.specs.Prelude.{ℕ, List, ◌∷◌, ◌≤◌}
use Rattle.fab_desk.specs.Files.{Map}
use Rattle.fab_rows.specs.Rows.{PlainRow}
use Rattle.fab_tables.specs.Lists.{Pair}
use Rattle.fab_files.specs.Files.{Event}
use Rattle.fab_list_files.specs.Lists.{Knowledge, Deed, adds, opens, ReadsList, MeetsList}
use Rattle.fab_list_files.specs.declared.listing.RowDeed.{RowDeed}
use Rattle.fab_list_files.specs.declared.listing.RowDeed.TheVariants as deeds

abbrev pub plain_deed : RowDeed → Deed
plain_deed (deeds.Adds new) = adds new.items
plain_deed (deeds.Opens file) = opens file

-- where a row opens a file, one more may be opened
abbrev pub MayOpen : (left : ℕ) → RowDeed → Type 0
MayOpen left (deeds.Adds new) = Unit {0}
MayOpen left (deeds.Opens file) = 1 ≤ left

-- Whatever rows follow, this row leads from the pairs before it to those after it.
pub record RowLeads (files : Map) (known : Knowledge) (left : ℕ) (file : List ℕ) (before : List Pair) (row : PlainRow) (after : List Pair) : Type 0 where
  pub reads : (rows : List PlainRow) (last : List Pair) → ReadsList files known left file after rows last → ReadsList files known left file before (row ∷ rows) last
  pub meets : (rows : List PlainRow) (event : Event) → MeetsList files known left file after rows event → MeetsList files known left file before (row ∷ rows) event

-- Whatever rows follow, this is what a reader comes upon in this row.
abbrev pub MeetsRow : (files : Map) (known : Knowledge) (left : ℕ) (file : List ℕ) (before : List Pair) (row : PlainRow) → Event → Type 0
MeetsRow files known left file before row event = (rows : List PlainRow) → MeetsList files known left file before (row ∷ rows) event

-- From these pairs all rows come to what the rest of them comes to from those.
pub record LeadsOn (files : Map) (known : Knowledge) (left : ℕ) (file : List ℕ) (before : List Pair) (rows : List PlainRow) (here : List Pair) (rest : List PlainRow) : Type 0 where
  pub reads : (last : List Pair) → ReadsList files known left file here rest last → ReadsList files known left file before rows last
  pub meets : (event : Event) → MeetsList files known left file here rest event → MeetsList files known left file before rows event
