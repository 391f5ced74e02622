-- The two functions on joins answer exactly the joins.
use Rattle.std.proofs.Common.{◌≡◌, ◌↔◌, ℕ, suc, ◌+◌, ◌-◌, ◌<◌, true, false, ◌&&◌, refl, sym, ap, ◌∙◌, arith, subst, Option, Some, None, option_and_then, nat_lt, inl, inr}
use Rattle.std.proofs.lemmas.Bool.{cases_Bool, and_parts, le-ltb}
use Rattle.std.proofs.lemmas.Option.{cond_some, none-some, some_pair_parts}
use Rattle.fab_model.specs.declared.tiles.WireRow.{WireRow}
use Rattle.fab_model.specs.Rows.{IsWireRow, is_jump, is_named, border_bits, source_bits, dest_bits}
use Rattle.fab_model.specs.Tiles.{PlainTile}
use Rattle.fab_model.specs.Grid.{PlainFabric, AreRows}
use Rattle.fab_model.specs.Joins.{RowPlace, Stands, Ends, arrives, Joins, jump, cascade}
use Rattle.fab_model.specs.Cascade.{PlacedRow, next_row, previous_row, passing_bits, walk_to, walk_from, other_side, row_join_to, row_join_from, join_to, join_from, IsSourceBit, IsDestBit}
use Rattle.fab_model.proofs.Crossings.{placed, standing_is_placed, one_row_stands, standing_is_wire_row, crossing_to}
use Rattle.fab_model.proofs.Walks.{side_bits_is, side_has_name, border_is, source_border, stands_is, is_stands, leads_walk, walk_leads, leads_back, AllLead, walk_joins}

-- a destination bit is a bit of its border, and ends there
dest_ends : (row : WireRow) (dest : ℕ) → IsWireRow row → is_jump row.dir ≡ false → dest < dest_bits row → (dest < border_bits row) × Ends row dest
dest_ends row dest is no_jump few =
    let named : is_named row.dest ≡ true = side_has_name row row.dest row.source dest few in
    let border = border_is row is no_jump named in
    elim (cases_Bool (is_named row.source)) [
      | inl source ↦ (
          let bits : dest_bits row ≡ row.count = side_bits_is row row.dest row.source named ∙ rw (no_jump, source) refl in
          (omega (arith, few, bits, border), inr (omega (arith, few, bits))))
      | inr no_source ↦ (
          let bits : dest_bits row ≡ border_bits row = side_bits_is row row.dest row.source named ∙ rw (no_jump, no_source) refl in
          (omega (arith, few, bits), inl no_source))
    ]

-- a border bit that ends in a row is one of its destination bits
ends_dest : (row : WireRow) (dest : ℕ) → is_jump row.dir ≡ false → is_named row.dest ≡ true → dest < border_bits row → Ends row dest → dest < dest_bits row
ends_dest row dest no_jump named few (inl no_source) =
    let bits : dest_bits row ≡ border_bits row = side_bits_is row row.dest row.source named ∙ rw (no_jump, no_source) refl in
    omega (arith, few, bits)
ends_dest row dest no_jump named few (inr ends) =
    elim (cases_Bool (is_named row.source)) [
      | inl source ↦ (
          let bits : dest_bits row ≡ row.count = side_bits_is row row.dest row.source named ∙ rw (no_jump, source) refl in
          omega (arith, ends, bits))
      | inr no_source ↦ (
          let bits : dest_bits row ≡ border_bits row = side_bits_is row row.dest row.source named ∙ rw (no_jump, no_source) refl in
          omega (arith, few, bits))
    ]

-- both sides of a jump have as many bits
jump_bits : (row : WireRow) → is_jump row.dir ≡ true → is_named row.source ≡ true → is_named row.dest ≡ true → source_bits row ≡ dest_bits row
jump_bits row jumps source dest =
    let sources : source_bits row ≡ row.count = side_bits_is row row.source row.dest source ∙ rw jumps refl in
    let dests : dest_bits row ≡ row.count = side_bits_is row row.dest row.source dest ∙ rw jumps refl in
    sources ∙ sym dests

-- ---- from a source bit

-- the destination bit that is found is joined
pub join_to_joins : (fabric : PlainFabric) (here there : RowPlace) (source dest : ℕ) (tile : PlainTile) (row : WireRow) → Stands fabric here tile row → source < source_bits row → join_to fabric here source ≡ Some (there, dest) → Joins fabric here source there dest
join_to_joins fabric here there source dest tile row stands few h =
    let from : PlacedRow = placed here tile row in
    let found : RowPlace × ℕ = (there, dest) in
    let named : is_named row.source ≡ true = side_has_name row row.source row.dest source few in
    let answer : row_join_to fabric source from ≡ Some found = sym (ap (option_and_then (row_join_to fabric source)) (standing_is_placed fabric from stands)) ∙ h in
    elim (cases_Bool (is_jump row.dir)) [
      | inl jumps ↦ (
          let q : other_side from source ≡ Some found = rw jumps at answer in
          let g = cond_some (is_named row.source && is_named row.dest) (here, source) found q in
          let parts = and_parts (is_named row.source) (is_named row.dest) g.0 in
          subst (λ (found : RowPlace × ℕ). Joins fabric here source found.0 found.1) g.1 (jump stands jumps few parts.1))
      | inr no_jump ↦ (
          let q : walk_to fabric (border_bits row) (next_row fabric from) (passing_bits row + source) ≡ Some found = rw no_jump at answer in
          cascade stands no_jump few (is_stands row source) (walk_leads fabric (border_bits row) from (next_row fabric from) (passing_bits row + source) found stands named refl q))
    ]

-- the destination bit that is joined is found
pub joins_join_to : (fabric : PlainFabric) → AreRows fabric → (here there : RowPlace) (source dest : ℕ) → Joins fabric here source there dest → join_to fabric here source ≡ Some (there, dest)
joins_join_to fabric are here there source dest (jump {tile = tile} {row = row} stands jumps few dest_named) =
    let named : is_named row.source ≡ true = side_has_name row row.source row.dest source few in
    ap (option_and_then (row_join_to fabric source)) (standing_is_placed fabric (placed here tile row) stands) ∙ rw (jumps, named, dest_named) refl
joins_join_to fabric are here there source dest (cascade {bit = bit} {tile = tile} {row = row} stands no_jump few at leads) =
    let from : PlacedRow = placed here tile row in
    let named : is_named row.source ≡ true = side_has_name row row.source row.dest source few in
    let border = source_border row (standing_is_wire_row fabric from are stands) no_jump named in
    let bit_is : passing_bits row + source ≡ bit = sym (stands_is row source bit at) in
    ap (option_and_then (row_join_to fabric source)) (standing_is_placed fabric from stands)
    ∙ rw (no_jump, bit_is) (leads_walk fabric are leads from stands refl (border_bits row) (omega (arith, few, border, bit_is)))

-- ---- from a destination bit

-- the source bit that is found is joined
pub join_from_joins : (fabric : PlainFabric) → AreRows fabric → (here there : RowPlace) (source dest : ℕ) (tile : PlainTile) (row : WireRow) → Stands fabric there tile row → dest < dest_bits row → join_from fabric there dest ≡ Some (here, source) → Joins fabric here source there dest
join_from_joins fabric are here there source dest tile row stands few h =
    let target : PlacedRow = placed there tile row in
    let found : RowPlace × ℕ = (here, source) in
    let named : is_named row.dest ≡ true = side_has_name row row.dest row.source dest few in
    let answer : row_join_from fabric dest target ≡ Some found = sym (ap (option_and_then (row_join_from fabric dest)) (standing_is_placed fabric target stands)) ∙ h in
    elim (cases_Bool (is_jump row.dir)) [
      | inl jumps ↦ (
          let q : other_side target dest ≡ Some found = rw jumps at answer in
          let g = cond_some (is_named row.source && is_named row.dest) (there, dest) found q in
          let parts = and_parts (is_named row.source) (is_named row.dest) g.0 in
          let bits = jump_bits row jumps parts.0 parts.1 in
          subst (λ (found : RowPlace × ℕ). Joins fabric found.0 found.1 there dest) g.1 (jump stands jumps (omega (arith, few, bits)) parts.1))
      | inr no_jump ↦ (
          let q : walk_from fabric (border_bits row) (previous_row fabric target) dest ≡ Some found = rw no_jump at answer in
          let ends = dest_ends row dest (standing_is_wire_row fabric target are stands) no_jump few in
          let all : AllLead fabric target dest there dest =
          λ other crossing.
          let same : target ≡ crossing_to crossing = one_row_stands fabric target (crossing_to crossing) stands crossing.next_stands refl in
          arrives crossing (subst (λ target. Ends target.row dest) same ends.1) in
          walk_joins fabric are there dest (border_bits row) (previous_row fabric target) target dest found stands named ends.0 all refl q)
    ]

-- the source bit that is joined is found
pub joins_join_from : (fabric : PlainFabric) → AreRows fabric → (here there : RowPlace) (source dest : ℕ) → Joins fabric here source there dest → join_from fabric there dest ≡ Some (here, source)
joins_join_from fabric are here there source dest (jump {tile = tile} {row = row} stands jumps few dest_named) =
    let named : is_named row.source ≡ true = side_has_name row row.source row.dest source few in
    ap (option_and_then (row_join_from fabric source)) (standing_is_placed fabric (placed here tile row) stands) ∙ rw (jumps, named, dest_named) refl
joins_join_from fabric are here there source dest (cascade {bit = bit} {tile = tile} {row = row} stands no_jump few at leads) =
    let from : PlacedRow = placed here tile row in
    let named : is_named row.source ≡ true = side_has_name row row.source row.dest source few in
    let border = source_border row (standing_is_wire_row fabric from are stands) no_jump named in
    let bit_is = stands_is row source bit at in
    let few_bits : bit < border_bits row = omega (arith, few, border, bit_is) in
    let back = leads_back fabric are leads from stands refl few_bits in
    let target = back.target in
    let left = border_bits row - 1 - back.steps in
    let fuel : border_bits target.row ≡ back.steps + suc left = omega (arith, back.equal, back.short, few_bits) in
    let begins : nat_lt bit (passing_bits row) ≡ false = le-ltb bit (passing_bits row) (omega (arith, bit_is)) in
    let output : bit - passing_bits row ≡ source = omega (arith, bit_is) in
    ap (λ there. join_from fabric there dest) (sym back.place_is)
    ∙ ap (option_and_then (row_join_from fabric dest)) (standing_is_placed fabric target back.stands)
    ∙ rw (back.no_jump, fuel) (back.back left ∙ rw (begins, output) refl)

-- ---- both ends

-- a join begins at a source bit
pub joins_source : (fabric : PlainFabric) (here there : RowPlace) (source dest : ℕ) → Joins fabric here source there dest → IsSourceBit fabric here source
joins_source fabric here there source dest (jump {tile = tile} {row = row} stands jumps few named) = record { tile = tile; row = row; stands = stands; is_bit = few }
joins_source fabric here there source dest (cascade {tile = tile} {row = row} stands no_jump few at leads) = record { tile = tile; row = row; stands = stands; is_bit = few }

-- a join ends at a destination bit
pub joins_dest : (fabric : PlainFabric) → AreRows fabric → (here there : RowPlace) (source dest : ℕ) → Joins fabric here source there dest → IsDestBit fabric there dest
joins_dest fabric are here there source dest (jump {tile = tile} {row = row} stands jumps few dest_named) =
    let named : is_named row.source ≡ true = side_has_name row row.source row.dest source few in
    record { tile = tile; row = row; stands = stands; is_bit = omega (arith, few, jump_bits row jumps named dest_named) }
joins_dest fabric are here there source dest (cascade {bit = bit} {tile = tile} {row = row} stands no_jump few at leads) =
    let from : PlacedRow = placed here tile row in
    let named : is_named row.source ≡ true = side_has_name row row.source row.dest source few in
    let border = source_border row (standing_is_wire_row fabric from are stands) no_jump named in
    let few_bits : bit < border_bits row = omega (arith, few, border, stands_is row source bit at) in
    let back = leads_back fabric are leads from stands refl few_bits in
    subst (λ there. IsDestBit fabric there dest) back.place_is (record {
      tile = back.target.tile;
      row = back.target.row;
      stands = back.stands;
      is_bit = ends_dest back.target.row dest back.no_jump back.has_dest (omega (arith, few_bits, back.equal, back.short)) back.ends;
    })

-- ---- what the laws say

-- each answer is a join and each join an answer
pub join_to_answers : (fabric : PlainFabric) (here there : RowPlace) (source dest : ℕ) → AreRows fabric → IsSourceBit fabric here source → (join_to fabric here source ≡ Some (there, dest)) ↔ Joins fabric here source there dest
join_to_answers fabric here there source dest are is =
    (join_to_joins fabric here there source dest is.tile is.row is.stands is.is_bit, joins_join_to fabric are here there source dest)

pub join_from_answers : (fabric : PlainFabric) (here there : RowPlace) (source dest : ℕ) → AreRows fabric → IsDestBit fabric there dest → (join_from fabric there dest ≡ Some (here, source)) ↔ Joins fabric here source there dest
join_from_answers fabric here there source dest are is =
    (join_from_joins fabric are here there source dest is.tile is.row is.stands is.is_bit, joins_join_from fabric are here there source dest)

-- no answer is one that no pair makes
none_of : {A B : Type 0} (answer : Option (A × B)) → ((a : A) (b : B) → answer ≡ Some (a, b) → ⊥) → answer ≡ None
none_of None wrong = refl
none_of (Some pair) wrong = absurd (wrong pair.0 pair.1 refl)

-- no answer says that there is no join
pub join_to_nothing : (fabric : PlainFabric) (here : RowPlace) (source : ℕ) → AreRows fabric → IsSourceBit fabric here source → (join_to fabric here source ≡ None) ↔ ((there : RowPlace) (dest : ℕ) → Joins fabric here source there dest → ⊥)
join_to_nothing fabric here source are is = (
  λ none there dest joins. none-some (there, dest) (sym none ∙ joins_join_to fabric are here there source dest joins),
  λ nothing. none_of (join_to fabric here source) (λ there dest h. nothing there dest (join_to_joins fabric here there source dest is.tile is.row is.stands is.is_bit h)),
)

pub join_from_nothing : (fabric : PlainFabric) (there : RowPlace) (dest : ℕ) → AreRows fabric → IsDestBit fabric there dest → (join_from fabric there dest ≡ None) ↔ ((here : RowPlace) (source : ℕ) → Joins fabric here source there dest → ⊥)
join_from_nothing fabric there dest are is = (
  λ none here source joins. none-some (here, source) (sym none ∙ joins_join_from fabric are here there source dest joins),
  λ nothing. none_of (join_from fabric there dest) (λ here source h. nothing here source (join_from_joins fabric are here there source dest is.tile is.row is.stands is.is_bit h)),
)

-- the two functions turn each other round
pub to_and_from : (fabric : PlainFabric) (here there : RowPlace) (source dest : ℕ) → AreRows fabric → IsSourceBit fabric here source → join_to fabric here source ≡ Some (there, dest) → join_from fabric there dest ≡ Some (here, source)
to_and_from fabric here there source dest are is h =
    joins_join_from fabric are here there source dest (join_to_joins fabric here there source dest is.tile is.row is.stands is.is_bit h)

pub from_and_to : (fabric : PlainFabric) (here there : RowPlace) (source dest : ℕ) → AreRows fabric → IsDestBit fabric there dest → join_from fabric there dest ≡ Some (here, source) → join_to fabric here source ≡ Some (there, dest)
from_and_to fabric here there source dest are is h =
    joins_join_to fabric are here there source dest (join_from_joins fabric are here there source dest is.tile is.row is.stands is.is_bit h)

-- at most one bit is at the other end
pub one_dest : (fabric : PlainFabric) (here there other : RowPlace) (source dest bit : ℕ) → AreRows fabric → Joins fabric here source there dest → Joins fabric here source other bit → (there ≡ other) × (dest ≡ bit)
one_dest fabric here there other source dest bit are first second =
    some_pair_parts there other dest bit (sym (joins_join_to fabric are here there source dest first) ∙ joins_join_to fabric are here other source bit second)

pub one_source : (fabric : PlainFabric) (here other there : RowPlace) (source bit dest : ℕ) → AreRows fabric → Joins fabric here source there dest → Joins fabric other bit there dest → (here ≡ other) × (source ≡ bit)
one_source fabric here other there source bit dest are first second =
    some_pair_parts here other source bit (sym (joins_join_from fabric are here there source dest first) ∙ joins_join_from fabric are other there bit dest second)
