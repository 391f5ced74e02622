-- The walks along the joins of a fabric find the joins and nothing else.
use Rattle.std.proofs.Common.{◌≡◌, ℕ, zero, suc, ◌+◌, ◌-◌, ◌*◌, ◌<◌, ◌≤◌, true, false, cond, not, refl, sym, ap, ap₂, ◌∙◌, arith, subst, Option, Some, None, if◌then◌else◌, nat_lt, inl, inr}
use Rattle.std.proofs.lemmas.Bool.{cases_Bool, false≢true, or_cases, or_parts, or_right, not-true, not-false, ltb-true, ltb-false, lt-ltb, le-ltb, MatchBool-at_true, MatchBool-at_false}
use Rattle.std.proofs.lemmas.Option.{same_Some}
use Rattle.fab_model.specs.declared.tiles.WireRow.{WireRow}
use Rattle.fab_model.specs.Rows.{IsWireRow, is_jump, is_named, border_bits, side_bits, source_bits}
use Rattle.fab_model.specs.Grid.{PlainFabric, AreRows}
use Rattle.fab_model.specs.Joins.{RowPlace, Crosses, StandsAt, Ends, LeadsOn, arrives, goes_on, Joins, cascade}
use Rattle.fab_model.specs.Cascade.{PlacedRow, next_row, previous_row, passing_bits, ends_there, walk_to, walk_from}
use Rattle.fab_model.proofs.Crossings.{IsPlaced, one_row_stands, standing_is_wire_row, crossing_from, crossing_to, crossed, crosses_next, crosses_previous, next_crosses, previous_crosses}

-- ---- the bits of a row

pub side_bits_is : (row : WireRow) (side other : _) → is_named side ≡ true → side_bits row side other ≡ cond (is_jump row.dir) row.count (cond (is_named other) row.count (border_bits row))
side_bits_is row None other named = absurd (false≢true named)
side_bits_is row (Some name) other named = refl

-- a side that has a bit has a name
pub side_has_name : (row : WireRow) (side other : _) (bit : ℕ) → bit < side_bits row side other → is_named side ≡ true
side_has_name row None other bit few = absurd (omega (arith, few))
side_has_name row (Some name) other bit few = refl

-- at the border the bits that begin in a row stand behind those that pass it
pub border_is : (row : WireRow) → IsWireRow row → is_jump row.dir ≡ false → is_named row.dest ≡ true → border_bits row ≡ passing_bits row + row.count
border_is row is no_jump named =
    let span : 1 ≤ row.span = (MatchBool-at_false (row.span ≡ 0) ((1 ≤ row.span) × (row.span ≤ 31)) no_jump is.span_is).0 in
    let above : row.span ≡ row.span - 1 + 1 = omega (arith, span) in
    ap (λ span. span * row.count) above ∙ rw named (omega arith)

pub source_border : (row : WireRow) → IsWireRow row → is_jump row.dir ≡ false → is_named row.source ≡ true → passing_bits row + source_bits row ≡ border_bits row
source_border row is no_jump named =
    elim (cases_Bool (is_named row.dest)) [
      | inl has_dest ↦ (
          let bits : source_bits row ≡ row.count = side_bits_is row row.source row.dest named ∙ rw (no_jump, has_dest) refl in
          ap (λ bits. passing_bits row + bits) bits ∙ sym (border_is row is no_jump has_dest))
      | inr no_dest ↦ (
          let bits : source_bits row ≡ border_bits row = side_bits_is row row.source row.dest named ∙ rw (no_jump, no_dest) refl in
          let passing : passing_bits row ≡ 0 = rw no_dest refl in
          ap₂ (λ passing bits. passing + bits) passing bits ∙ omega arith)
    ]

-- only a row with a destination passes bits
passing_has_dest : (row : WireRow) (bit : ℕ) → bit < passing_bits row → is_named row.dest ≡ true
passing_has_dest row bit before =
    elim (cases_Bool (is_named row.dest)) [
      | inl has_dest ↦ has_dest
      | inr no_dest ↦ (let none : bit < 0 = rw no_dest at before in absurd (omega (arith, none)))
    ]

-- where a matrix output stands
pub stands_is : (row : WireRow) (source bit : ℕ) → StandsAt row source bit → bit ≡ passing_bits row + source
stands_is row source bit stands =
    elim (cases_Bool (is_named row.dest)) [
      | inl has_dest ↦ (MatchBool-at_true (bit ≡ (row.span - 1) * row.count + source) (bit ≡ source) has_dest stands ∙ rw has_dest refl)
      | inr no_dest ↦ (
          let passing : passing_bits row ≡ 0 = rw no_dest refl in
          let same : bit ≡ source = MatchBool-at_false (bit ≡ (row.span - 1) * row.count + source) (bit ≡ source) no_dest stands in
          omega (arith, passing, same))
    ]

-- a matrix output stands behind the bits that pass
pub is_stands : (row : WireRow) (source : ℕ) → StandsAt row source (passing_bits row + source)
is_stands row source =
    elim (cases_Bool (is_named row.dest)) [
      | inl has_dest ↦ rw has_dest refl
      | inr no_dest ↦ rw no_dest (omega arith)
    ]

-- the test of where a bit ends
pub ends_is : (row : WireRow) (bit : ℕ) → Ends row bit → ends_there row bit ≡ true
ends_is row bit (inl unnamed) = rw unnamed refl
ends_is row bit (inr few) = or_right (not (is_named row.source)) (nat_lt bit row.count) (lt-ltb bit row.count few)

is_ends : (row : WireRow) (bit : ℕ) → ends_there row bit ≡ true → Ends row bit
is_ends row bit h =
    elim (or_cases (not (is_named row.source)) (nat_lt bit row.count) h) [
      | inl unnamed ↦ inl (not-true (is_named row.source) unnamed)
      | inr few ↦ inr (ltb-true bit row.count few)
    ]

-- a sum in the other order, at an equal count
sum_is : (bit count other : ℕ) → count ≡ other → bit + count ≡ other + bit
sum_is bit count other same = omega (arith, same)

-- ---- from a source bit

-- a walk finds where a border bit leads to
pub leads_walk : (fabric : PlainFabric) → AreRows fabric → {here there : RowPlace} {bit dest : ℕ} → LeadsOn fabric here bit there dest → (from : PlacedRow) → IsPlaced fabric from → from.place ≡ here → (fuel : ℕ) → bit < fuel → walk_to fabric fuel (next_row fabric from) bit ≡ Some (there, dest)
leads_walk fabric are (arrives crossing ends) from stands at zero enough = absurd (omega (arith, enough))
leads_walk fabric are (arrives {bit = bit} crossing ends) from stands at (suc fuel) enough =
    let same : from ≡ crossing_from crossing = one_row_stands fabric from (crossing_from crossing) stands crossing.stands at in
    ap (λ next. walk_to fabric (suc fuel) next bit) (ap (next_row fabric) same ∙ crosses_next crossing)
    ∙ rw (ends_is crossing.next_row bit ends) refl
leads_walk fabric are (goes_on crossing named passes leads) from stands at zero enough = absurd (omega (arith, enough))
leads_walk fabric are (goes_on {there = there} {bit = bit} {rest = rest} {dest = dest} crossing named passes leads) from stands at (suc fuel) enough =
    let next = crossing_to crossing in
    let same : from ≡ crossing_from crossing = one_row_stands fabric from (crossing_from crossing) stands crossing.stands at in
    let is = standing_is_wire_row fabric next are crossing.next_stands in
    let many : 1 ≤ next.row.count = is.has_wires in
    let ends_not : ends_there next.row bit ≡ false = rw (named, le-ltb bit next.row.count (omega (arith, passes))) refl in
    let rest_is : bit - next.row.count ≡ rest = omega (arith, passes) in
    ap (λ next. walk_to fabric (suc fuel) next bit) (ap (next_row fabric) same ∙ crosses_next crossing)
    ∙ rw (ends_not, rest_is) (leads_walk fabric are leads next crossing.next_stands refl fuel (omega (arith, passes, many, enough)))

-- a border bit leads to what a walk finds
pub walk_leads : (fabric : PlainFabric) (fuel : ℕ) (from : PlacedRow) (next : Option PlacedRow) (bit : ℕ) (found : RowPlace × ℕ) → IsPlaced fabric from → is_named from.row.source ≡ true → next_row fabric from ≡ next → walk_to fabric fuel next bit ≡ Some found → LeadsOn fabric from.place bit found.0 found.1
walk_leads fabric fuel from None bit found stands named is h = cc
walk_leads fabric zero from (Some next) bit found stands named is h = cc
walk_leads fabric (suc fuel) from (Some next) bit found stands named is h =
    let crossing : Crosses fabric from.place next.place = next_crosses fabric from next stands named is in
    elim (cases_Bool (ends_there next.row bit)) [
      | inl ends ↦ (
          let q : Some (next.place, bit) ≡ Some found = rw ends at h in
          subst (λ found. LeadsOn fabric from.place bit found.0 found.1) (same_Some (next.place, bit) found q) (arrives crossing (is_ends next.row bit ends)))
      | inr ends_not ↦ (
          let q : walk_to fabric fuel (next_row fabric next) (bit - next.row.count) ≡ Some found = rw ends_not at h in
          let parts = or_parts (not (is_named next.row.source)) (nat_lt bit next.row.count) ends_not in
          let goes : is_named next.row.source ≡ true = not-false (is_named next.row.source) parts.0 in
          let many : next.row.count ≤ bit = ltb-false bit next.row.count parts.1 in
          let placed_next : IsPlaced fabric next = crossing.next_stands in
          goes_on crossing goes (omega (arith, many)) (walk_leads fabric fuel next (next_row fabric next) (bit - next.row.count) found placed_next goes refl q))
    ]

-- ---- from a destination bit

-- the end of the walk back, at a row to whose border bit it has come
abbrev pub back_at : PlainFabric → ℕ → PlacedRow → ℕ → Option (RowPlace × ℕ)
back_at fabric fuel here bit =
    if nat_lt bit (passing_bits here.row) then walk_from fabric fuel (previous_row fabric here) (bit + here.row.count)
    else Some (here.place, bit - passing_bits here.row)

-- where a border bit leads to, a walk comes back from there
pub record ComesBack (fabric : PlainFabric) (here : PlacedRow) (bit : ℕ) (there : RowPlace) (dest : ℕ) : Type 0 where
  pub target : PlacedRow
  pub place_is : target.place ≡ there
  pub stands : IsPlaced fabric target
  pub no_jump : is_jump target.row.dir ≡ false
  pub has_dest : is_named target.row.dest ≡ true
  pub equal : border_bits target.row ≡ border_bits here.row
  pub ends : Ends target.row dest
  pub steps : ℕ
  pub short : dest + steps ≤ bit
  pub back : (fuel : ℕ) → walk_from fabric (steps + suc fuel) (previous_row fabric target) dest ≡ back_at fabric fuel here bit

-- each border bit that leads somewhere comes back from there
pub leads_back : (fabric : PlainFabric) → AreRows fabric → {here there : RowPlace} {bit dest : ℕ} → LeadsOn fabric here bit there dest → (from : PlacedRow) → IsPlaced fabric from → from.place ≡ here → bit < border_bits from.row → ComesBack fabric from bit there dest
leads_back fabric are (arrives {bit = bit} crossing ends) from stands at few =
    let same : crossing_from crossing ≡ from = one_row_stands fabric (crossing_from crossing) from crossing.stands stands (sym at) in
    let both = crossed crossing in
    record {
      target = crossing_to crossing;
      place_is = refl;
      stands = crossing.next_stands;
      no_jump = both.next_no_jump;
      has_dest = both.has_dest;
      equal = sym both.equal ∙ ap (λ from. border_bits from.row) same;
      ends = ends;
      steps = 0;
      short = omega arith;
      back = λ fuel.
          let first : 0 + suc fuel ≡ suc fuel = omega arith in
          ap (λ fuel. walk_from fabric fuel (previous_row fabric (crossing_to crossing)) bit) first
          ∙ ap (λ previous. walk_from fabric (suc fuel) previous bit) (crosses_previous crossing ∙ ap Some same);
    }
leads_back fabric are (goes_on {there = there} {bit = bit} {rest = rest} {dest = dest} crossing named passes leads) from stands at few =
    let next = crossing_to crossing in
    let same : crossing_from crossing ≡ from = one_row_stands fabric (crossing_from crossing) from crossing.stands stands (sym at) in
    let both = crossed crossing in
    let equal : border_bits next.row ≡ border_bits from.row = sym both.equal ∙ ap (λ from. border_bits from.row) same in
    let is = standing_is_wire_row fabric next are crossing.next_stands in
    let many : 1 ≤ next.row.count = is.has_wires in
    let border : border_bits next.row ≡ passing_bits next.row + next.row.count = border_is next.row is both.next_no_jump both.has_dest in
    let rest_passes : rest < passing_bits next.row = omega (arith, few, passes, equal, border) in
    let rest_is : rest + next.row.count ≡ bit = omega (arith, passes) in
    let g = leads_back fabric are leads next crossing.next_stands refl (omega (arith, rest_passes, border)) in
    let step : (fuel : ℕ) → back_at fabric (suc fuel) next rest ≡ back_at fabric fuel from bit =
    λ fuel. rw (lt-ltb rest (passing_bits next.row) rest_passes, rest_is) (ap (λ previous. walk_from fabric (suc fuel) previous bit) (crosses_previous crossing ∙ ap Some same)) in
    record {
      target = g.target;
      place_is = g.place_is;
      stands = g.stands;
      no_jump = g.no_jump;
      has_dest = g.has_dest;
      equal = g.equal ∙ equal;
      ends = g.ends;
      steps = suc g.steps;
      short = omega (arith, g.short, passes, many);
      back = λ fuel.
          let earlier : suc g.steps + suc fuel ≡ g.steps + suc (suc fuel) = omega arith in
          ap (λ fuel. walk_from fabric fuel (previous_row fabric g.target) dest) earlier ∙ g.back (suc fuel) ∙ step fuel;
    }

-- all rows that cross to a row lead to a destination bit
abbrev pub AllLead : PlainFabric → PlacedRow → ℕ → RowPlace → ℕ → Type 0
AllLead fabric next bit there dest = (here : RowPlace) → Crosses fabric here next.place → LeadsOn fabric here bit there dest

-- a row at whose border a bit begins is joined to where the bit leads
begins_there : (fabric : PlainFabric) → AreRows fabric → (here : PlacedRow) (bit : ℕ) (there : RowPlace) (dest : ℕ) → IsPlaced fabric here → is_jump here.row.dir ≡ false → is_named here.row.source ≡ true → bit < border_bits here.row → nat_lt bit (passing_bits here.row) ≡ false → LeadsOn fabric here.place bit there dest → Joins fabric here.place (bit - passing_bits here.row) there dest
begins_there fabric are here bit there dest stands no_jump named few begins leads =
    let is = standing_is_wire_row fabric here are stands in
    let behind : passing_bits here.row ≤ bit = ltb-false bit (passing_bits here.row) begins in
    let border = source_border here.row is no_jump named in
    let bit_is : passing_bits here.row + (bit - passing_bits here.row) ≡ bit = omega (arith, behind) in
    cascade stands no_jump (omega (arith, behind, few, border))
    (subst (λ at. StandsAt here.row (bit - passing_bits here.row) at) bit_is (is_stands here.row (bit - passing_bits here.row))) leads

-- what a walk back finds is joined
pub walk_joins : (fabric : PlainFabric) → AreRows fabric → (there : RowPlace) (dest fuel : ℕ) (previous : Option PlacedRow) (next : PlacedRow) (bit : ℕ) (found : RowPlace × ℕ) → IsPlaced fabric next → is_named next.row.dest ≡ true → bit < border_bits next.row → AllLead fabric next bit there dest → previous_row fabric next ≡ previous → walk_from fabric fuel previous bit ≡ Some found → Joins fabric found.0 found.1 there dest
walk_joins fabric are there dest fuel None next bit found stands named few all is h = cc
walk_joins fabric are there dest zero (Some here) next bit found stands named few all is h = cc
walk_joins fabric are there dest (suc fuel) (Some here) next bit found stands named few all is h =
    let crossing : Crosses fabric here.place next.place = previous_crosses fabric here next stands named is in
    let both = crossed crossing in
    let placed_here : IsPlaced fabric here = crossing.stands in
    let source : is_named here.row.source ≡ true = both.has_source in
    let no_jump : is_jump here.row.dir ≡ false = both.no_jump in
    let equal : border_bits here.row ≡ border_bits next.row = both.equal in
    let leads = all here.place crossing in
    elim (cases_Bool (nat_lt bit (passing_bits here.row))) [
      | inl passes ↦ (
          let q : walk_from fabric fuel (previous_row fabric here) (bit + here.row.count) ≡ Some found = rw passes at h in
          let before : bit < passing_bits here.row = ltb-true bit (passing_bits here.row) passes in
          let dest_named : is_named here.row.dest ≡ true = passing_has_dest here.row bit before in
          let border = border_is here.row (standing_is_wire_row fabric here are placed_here) no_jump dest_named in
          let behind : AllLead fabric here (bit + here.row.count) there dest =
          λ other crosses.
          let same : crossing_to crosses ≡ here = one_row_stands fabric (crossing_to crosses) here crosses.next_stands placed_here refl in
          goes_on crosses (ap (λ here. is_named here.row.source) same ∙ source) (sum_is bit here.row.count crosses.next_row.count (sym (ap (λ here. here.row.count) same))) leads in
          walk_joins fabric are there dest fuel (previous_row fabric here) here (bit + here.row.count) found placed_here dest_named (omega (arith, before, border)) behind refl q)
      | inr begins ↦ (
          let q : Some (here.place, bit - passing_bits here.row) ≡ Some found = rw begins at h in
          subst (λ found. Joins fabric found.0 found.1 there dest) (same_Some (here.place, bit - passing_bits here.row) found q)
          (begins_there fabric are here bit there dest placed_here no_jump source (omega (arith, few, equal)) begins leads))
    ]
