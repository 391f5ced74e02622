-- The rows of a switch list, row by row.
use Rattle.std.proofs.Common.{◌≡◌, ℕ, Bool, true, false, ◌&&◌, List, [], ◌∷◌, Result, Ok, Err, refl}
use Rattle.std.proofs.lemmas.Bool.{and_parts}
use Rattle.fab_base.specs.declared.problem.Problem.{Problem}
use Rattle.fab_desk.specs.Files.{Map}
use Rattle.fab_rows.specs.Rows.{PlainRow}
use Rattle.fab_tables.specs.Lists.{Pair}
use Rattle.fab_list_files.specs.Lists.{Knowledge, Deed, adds, opens, deed_of, with_pairs, ReadsList, ends, adds_pairs}

-- pairs, and whether each row added some
pub record Listing : Type 0 where
  pub pairs : List Pair
  pub is_fine : Bool

abbrev pub added : Result Deed Problem → Listing
added (Ok (adds new)) = record { pairs = new; is_fine = true }
added (Ok (opens file)) = record { pairs = []; is_fine = false }
added (Err problem) = record { pairs = []; is_fine = false }

abbrev pub listing : Knowledge → (left : ℕ) (file : List ℕ) (before : List Pair) → List PlainRow → Listing
listing known left file before [] = record { pairs = before; is_fine = true }
listing known left file before (row ∷ rows) =
    let new = added (deed_of known left file before row.cells) in
    let rest = listing known left file (with_pairs before new.pairs) rows in
    record { pairs = rest.pairs; is_fine = new.is_fine && rest.is_fine }

module _ (files : Map) (known : Knowledge) (left : ℕ) (file : List ℕ) where
  row_lists : (before after : List Pair) (row : PlainRow) (rows : List PlainRow) (result : Result Deed Problem) → deed_of known left file before row.cells ≡ result → (added result).is_fine ≡ true →
      ReadsList files known left file (with_pairs before (added result).pairs) rows after → ReadsList files known left file before (row ∷ rows) after
  row_lists before after row rows (Ok (adds new)) is fine rest = adds_pairs is rest
  row_lists before after row rows (Ok (opens other)) is fine rest = absurd cc
  row_lists before after row rows (Err problem) is fine rest = absurd cc

  pub lists : (before : List Pair) (rows : List PlainRow) → (listing known left file before rows).is_fine ≡ true → ReadsList files known left file before rows (listing known left file before rows).pairs
  lists before [] fine = ends
  lists before (row ∷ rows) fine =
      let new : Listing = added (deed_of known left file before row.cells) in
      let rest : Listing = listing known left file (with_pairs before new.pairs) rows in
      let parts = and_parts new.is_fine rest.is_fine fine in
      row_lists before rest.pairs row rows (deed_of known left file before row.cells) refl parts.0 (lists (with_pairs before new.pairs) rows parts.1)
