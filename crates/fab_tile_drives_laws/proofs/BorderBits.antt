-- The assigns of rows, and which bits there are.
use Rattle.std.proofs.Common.{◌≡◌, ℕ, zero, suc, ◌+◌, ◌*◌, ◌-◌, ◌<◌, ◌≤◌, true, false, List, [], ◌++◌, sym, ap, ◌∙◌, subst, arith, Option, Some, None, Contains, if◌then◌else◌}
use Rattle.std.specs.Bool.{MatchBool}
use Rattle.std.proofs.lemmas.Bool.{false≢true}
use Rattle.std.proofs.lemmas.List.Elements.{Contains-append_left, Contains-append_right}
use Rattle.std.proofs.Math.Nat.{suc-mul}
use Rattle.fab_gen_tile.specs.fab_syntax.specs.Plain.{PlainItem, variable, assign}
use Rattle.fab_gen_tile.specs.fab_model.specs.declared.tiles.WireRow.{WireRow}
use Rattle.fab_gen_tile.specs.fab_model.specs.Rows.{is_jump, is_named, border_bits, side_bits, source_bits, dest_bits, bit_name, IsWireRow}
use Rattle.fab_gen_tile.specs.fab_model.specs.Tiles.{counted}
use Rattle.fab_gen_tile.specs.fab_model.specs.Cascade.{passing_bits}
use Rattle.fab_gen_tile.specs.Names.{begin_name}
use Rattle.fab_gen_tile.specs.Borders.{border, side_border, passing_assign, beginning_assign, begin_assigns, dest_assign, row_assigns}
use Rattle.fab_tile_drives_laws.proofs.Members.{contains_counted}

-- ---- counts

-- as many wires as pass, and those that begin
passing_and_one : (span count : ℕ) → 1 ≤ span → span * count ≡ (span - 1) * count + count
passing_and_one zero count some = absurd (omega arith)
passing_and_one (suc span) count some =
    let less : suc span - 1 ≡ span = omega arith in
    suc-mul span count ∙ ap (λ n. n * count + count) (sym less)

span_of : (row : WireRow) → IsWireRow row → is_jump row.dir ≡ false → 1 ≤ row.span
span_of row is other = (subst (λ b. MatchBool b (row.span ≡ 0) ((1 ≤ row.span) × (row.span ≤ 31))) other is.span_is).0

module _ (row : WireRow) (is : IsWireRow row) (other : is_jump row.dir ≡ false) where
  pub border_is : border_bits row ≡ (row.span - 1) * row.count + row.count
  border_is = passing_and_one row.span row.count (span_of row is other)

  -- the bits of a side lie within those of its border
  side_within : (side far : Option (List ℕ)) (bit : ℕ) → bit < side_bits row side far → bit < side_border row side
  side_within None far bit few = few
  side_within (Some name) None bit few = rw other at few
  side_within (Some name) (Some far) bit few =
      let within : bit < row.count = rw other at few in
      let whole : row.span * row.count ≡ (row.span - 1) * row.count + row.count = border_is in
      omega arith

  pub dest_within : (bit : ℕ) → bit < dest_bits row → bit < side_border row row.dest
  dest_within bit few = side_within row.dest row.source bit few

  -- a named side has all bits of its border
  named_border : (side : Option (List ℕ)) (bit : ℕ) → is_named side ≡ true → bit < border_bits row → bit < side_border row side
  named_border None bit named few = absurd (false≢true named)
  named_border (Some name) bit named few = few

  pub source_within : (bit : ℕ) → is_named row.source ≡ true → bit < border_bits row → bit < side_border row row.source
  source_within bit named few = named_border row.source bit named few

  abbrev passing : (dest : Option (List ℕ)) → ℕ
  passing dest = if is_named dest then (row.span - 1) * row.count else 0

  passing_ends : (dest : Option (List ℕ)) (bit : ℕ) → bit < passing dest → bit + row.count < side_border row dest
  passing_ends None bit few = absurd (omega arith)
  passing_ends (Some name) bit few =
      let whole : row.span * row.count ≡ (row.span - 1) * row.count + row.count = border_is in
      omega arith

  -- a bit that passes comes in as one that stands as many bits on as there are wires
  pub passing_within : (bit : ℕ) → bit < passing_bits row → bit + row.count < side_border row row.dest
  passing_within bit few = passing_ends row.dest bit few

  begins_within : (source dest : Option (List ℕ)) (bit : ℕ) → is_named source ≡ true → passing dest ≤ bit → bit < border_bits row → bit - passing dest < side_bits row source dest
  begins_within None dest bit named past few = absurd (false≢true named)
  begins_within (Some source) None bit named past few = rw other (omega arith)
  begins_within (Some source) (Some dest) bit named past few =
      let whole : row.span * row.count ≡ (row.span - 1) * row.count + row.count = border_is in
      rw other (omega arith)

  -- behind those that pass stand the source bits
  pub beginning_within : (bit : ℕ) → is_named row.source ≡ true → passing_bits row ≤ bit → bit < border_bits row → bit - passing_bits row < source_bits row
  beginning_within bit named past few = begins_within row.source row.dest bit named past few

  -- ---- the assigns

  passing_among : (source dest : Option (List ℕ)) (bit : ℕ) → is_named source ≡ true → bit < passing dest → Contains (begin_assigns row source dest) (passing_assign row bit)
  passing_among None dest bit named few = absurd (false≢true named)
  passing_among (Some source) None bit named few = absurd (omega arith)
  passing_among (Some source) (Some dest) bit named few =
      let passes = (row.span - 1) * row.count in
      Contains-append_left (counted passes (passing_assign row)) (counted row.count (beginning_assign row passes)) (passing_assign row bit)
      (contains_counted passes (passing_assign row) bit few)

  beginning_among : (source dest : Option (List ℕ)) (bit : ℕ) → is_named source ≡ true → passing dest ≤ bit → bit < border_bits row →
      Contains (begin_assigns row source dest) (assign (begin_name row bit) (variable (bit_name row.source (bit - passing dest))))
  beginning_among None dest bit named past few = absurd (false≢true named)
  beginning_among (Some source) None bit named past few =
      let target : 0 + bit ≡ bit = omega arith in
      let output : bit ≡ bit - 0 = omega arith in
      subst (λ n. Contains (counted (border row) (beginning_assign row 0)) (assign (begin_name row n) (variable (bit_name row.source (bit - 0))))) target
      (subst (λ n. Contains (counted (border row) (beginning_assign row 0)) (assign (begin_name row (0 + bit)) (variable (bit_name row.source n)))) output
      (contains_counted (border row) (beginning_assign row 0) bit few))
  beginning_among (Some source) (Some dest) bit named past few =
      let passes = (row.span - 1) * row.count in
      let output = bit - passes in
      let whole : row.span * row.count ≡ (row.span - 1) * row.count + row.count = border_is in
      let target : passes + output ≡ bit = omega arith in
      subst (λ n. Contains (counted passes (passing_assign row) ++ counted row.count (beginning_assign row passes)) (assign (begin_name row n) (variable (bit_name row.source output)))) target
      (Contains-append_right (counted passes (passing_assign row)) (counted row.count (beginning_assign row passes)) (beginning_assign row passes output)
      (contains_counted row.count (beginning_assign row passes) output (omega arith)))

  begin_there : (item : PlainItem) → Contains (begin_assigns row row.source row.dest) item → Contains (row_assigns row) item
  begin_there item there = rw other (Contains-append_left (begin_assigns row row.source row.dest) (counted (dest_bits row) (dest_assign row)) item there)

  pub passing_there : (bit : ℕ) → is_named row.source ≡ true → bit < passing_bits row → Contains (row_assigns row) (passing_assign row bit)
  passing_there bit named few = begin_there (passing_assign row bit) (passing_among row.source row.dest bit named few)

  pub beginning_there : (bit : ℕ) → is_named row.source ≡ true → passing_bits row ≤ bit → bit < border_bits row →
      Contains (row_assigns row) (assign (begin_name row bit) (variable (bit_name row.source (bit - passing_bits row))))
  beginning_there bit named past few =
      begin_there (assign (begin_name row bit) (variable (bit_name row.source (bit - passing_bits row)))) (beginning_among row.source row.dest bit named past few)

pub dest_there : (row : WireRow) (bit : ℕ) → bit < dest_bits row → Contains (row_assigns row) (dest_assign row bit)
dest_there row bit few =
    Contains-append_right (if is_jump row.dir then [] else begin_assigns row row.source row.dest) (counted (dest_bits row) (dest_assign row)) (dest_assign row bit)
    (contains_counted (dest_bits row) (dest_assign row) bit few)

-- the bits of a jump are those of its other side, if it has one
jump_side : (row : WireRow) (side other : Option (List ℕ)) (bit : ℕ) → is_jump row.dir ≡ true → is_named other ≡ true → bit < side_bits row side other → bit < side_bits row other side
jump_side row None other bit jump named few = absurd (omega arith)
jump_side row (Some side) None bit jump named few = absurd (false≢true named)
jump_side row (Some side) (Some other) bit jump named few = few

pub jump_source : (row : WireRow) (bit : ℕ) → is_jump row.dir ≡ true → is_named row.source ≡ true → bit < dest_bits row → bit < source_bits row
jump_source row bit jump named few = jump_side row row.dest row.source bit jump named few
