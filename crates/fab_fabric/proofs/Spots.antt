-- From wires to places and back.
use Rattle.std.proofs.Common.{◌≡◌, ℕ, zero, suc, ◌+◌, ◌-◌, ◌*◌, ◌/◌, ◌%◌, ◌<◌, ◌≤◌, true, false, List, length, get_or, sym, ap, ◌∙◌, arith, subst, nat_le, inl, inr}
use Rattle.std.specs.List.Sorted.{IsPartitionedBy, IsPartitionPoint}
use Rattle.std.proofs.lemmas.Bool.{cases_lt}
use Rattle.std.proofs.lemmas.Bool.Decides.{nat_tests}
use Rattle.std.proofs.lemmas.Nat.{div-add-mod'}
use Rattle.std.proofs.lemmas.Grind.{get_or_default_zero}
use Rattle.fab_model.specs.Grid.{PlainFabric}
use Rattle.fab_fabric.specs.declared.index.TileIndex.{TileIndex}
use Rattle.fab_fabric.specs.Sums.{sum_to}
use Rattle.fab_fabric.specs.Fabric.{wires_at, column_wires, wire_count}
use Rattle.fab_fabric.specs.Wires.{wire_index}
use Rattle.fab_fabric.specs.inner.Index.{place_wires, HasFirsts, IsIndexed}
use Rattle.fab_fabric.proofs.Summed.{no_sum, sum_more, sum_at_most}
use Rattle.fab_fabric.proofs.Numbered.{first_of_place, all_places, wired_within}
use Rattle.fab_fabric.proofs.Placed.{in_columns}

-- ---- from a place to its wires

-- the place is one of the list
pub place_inside : (fabric self : PlainFabric) (indexes : List TileIndex) (firsts : List ℕ) (wires x y number : ℕ) → fabric ≡ self → IsIndexed fabric indexes firsts wires → number < wires_at self x y →
    (x < fabric.columns) × (y < fabric.rows) × (x * fabric.rows + y < length firsts)
place_inside fabric self indexes firsts wires x y number view is few =
    let here : number < wires_at fabric x y = subst (λ (f : PlainFabric). number < wires_at f x y) (sym view) few in
    let g = wired_within fabric x y number here in
    (g.0, g.1, omega (arith, is.numbered.as_many, in_columns x y fabric.columns fabric.rows g.0 g.1))

pub wire_read : (fabric self : PlainFabric) (indexes : List TileIndex) (firsts : List ℕ) (wires x y number first : ℕ) → fabric ≡ self → IsIndexed fabric indexes firsts wires → number < wires_at self x y →
    first ≡ get_or firsts (x * fabric.rows + y) first → first + number ≡ wire_index self x y number
wire_read fabric self indexes firsts wires x y number first view is few read =
    let g = place_inside fabric self indexes firsts wires x y number view is few in
    let place = x * fabric.rows + y in
    let first_is : first ≡ sum_to x (column_wires fabric) + sum_to y (wires_at fabric x) =
    read ∙ get_or_default_zero firsts place first g.2 ∙ is.numbered.each place (omega (arith, g.2, is.numbered.as_many)) ∙ first_of_place fabric x y (omega (arith, g.1)) in
    ap (λ n. n + number) first_is ∙ ap (λ (f : PlainFabric). wire_index f x y number) view

-- ---- from a wire to its place

-- the first wires rise
pub firsts_rise : (fabric : PlainFabric) (firsts : List ℕ) (wire : ℕ) → HasFirsts fabric firsts → IsPartitionedBy (λ first. nat_le first wire) firsts
firsts_rise fabric firsts wire has i j d rising within below =
    let in_j : j < fabric.columns * fabric.rows = omega (arith, within, has.as_many) in
    let in_i : i < fabric.columns * fabric.rows = omega (arith, in_j, rising) in
    let inside_i : i < length firsts = omega (arith, in_i, has.as_many) in
    let at_j : get_or firsts j d ≡ sum_to j (place_wires fabric) = get_or_default_zero firsts j d within ∙ has.each j in_j in
    let at_i : get_or firsts i d ≡ sum_to i (place_wires fabric) = get_or_default_zero firsts i d inside_i ∙ has.each i in_i in
    let low : sum_to i (place_wires fabric) ≤ sum_to j (place_wires fabric) = sum_at_most (place_wires fabric) i j rising in
    let there : get_or firsts j d ≤ wire = grind (arith, nat_tests) in
    let here : get_or firsts i d ≤ wire = omega (arith, at_i, at_j, low, there) in
    grind (arith, nat_tests)

-- what is known of the last place whose first wire is no later than a wire
pub record IsLast (fabric : PlainFabric) (firsts : List ℕ) (wire place : ℕ) : Type 0 where
  pub in_grid : place < fabric.columns * fabric.rows
  pub begins : sum_to place (place_wires fabric) ≤ wire
  pub ends : wire < sum_to place (place_wires fabric) + place_wires fabric place

pub some_begin : (fabric : PlainFabric) (firsts : List ℕ) (wire r : ℕ) → HasFirsts fabric firsts → wire < wire_count fabric → r ≤ length firsts →
    IsPartitionPoint (λ first. nat_le first wire ≡ true) (λ first. nat_le first wire ≡ false) firsts r → 1 ≤ r
some_begin fabric firsts wire zero has few within parts =
    elim (cases_lt 0 (length firsts)) [
      | inl some ↦ (
          let first : get_or firsts 0 0 ≡ 0 = has.each 0 (omega (arith, some, has.as_many)) ∙ no_sum (place_wires fabric) in
          let late : nat_le (get_or firsts 0 0) wire ≡ false = parts.1 0 0 (omega arith) some in
          let early : get_or firsts 0 0 ≤ wire = omega (arith, first) in
          absurd (grind (arith, nat_tests)))
      | inr none ↦ (
          let empty : fabric.columns * fabric.rows ≡ 0 = omega (arith, none, has.as_many) in
          absurd (omega (arith, few, all_places fabric, ap (λ n. sum_to n (place_wires fabric)) empty, no_sum (place_wires fabric))))
    ]
some_begin fabric firsts wire (suc r) has few within parts = omega arith

pub last_place : (fabric : PlainFabric) (firsts : List ℕ) (wire r : ℕ) → HasFirsts fabric firsts → wire < wire_count fabric → r ≤ length firsts →
    IsPartitionPoint (λ first. nat_le first wire ≡ true) (λ first. nat_le first wire ≡ false) firsts r → IsLast fabric firsts wire (r - 1)
last_place fabric firsts wire r has few within parts =
    let some : 1 ≤ r = some_begin fabric firsts wire r has few within parts in
    let place = r - 1 in
    let inside : place < fabric.columns * fabric.rows = omega (arith, some, within, has.as_many) in
    let early : nat_le (get_or firsts place 0) wire ≡ true = parts.0 place 0 (omega arith) (omega (arith, some)) in
    let begins : get_or firsts place 0 ≤ wire = grind (arith, nat_tests) in
    let first : get_or firsts place 0 ≡ sum_to place (place_wires fabric) = has.each place inside in
    let more = sum_more place (place_wires fabric) in
    let next : place + 1 ≡ r = omega (arith, some) in
    let next_is : sum_to (place + 1) (place_wires fabric) ≡ sum_to r (place_wires fabric) = ap (λ n. sum_to n (place_wires fabric)) next in
    let past : wire < sum_to r (place_wires fabric) =
    elim (cases_lt r (length firsts)) [
      | inl less ↦ (
          let late : nat_le (get_or firsts r 0) wire ≡ false = parts.1 r 0 (omega arith) less in
          let there : wire < get_or firsts r 0 = grind (arith, nat_tests) in
          omega (arith, there, has.each r (omega (arith, less, has.as_many))))
      | inr all ↦ (
          let whole : r ≡ fabric.columns * fabric.rows = omega (arith, all, within, has.as_many) in
          omega (arith, few, all_places fabric, ap (λ n. sum_to n (place_wires fabric)) whole))
    ] in
    record { in_grid = inside; begins = omega (arith, begins, first); ends = omega (arith, past, more, next_is) }

-- its first wire is no later, as it is read
pub first_early : (fabric : PlainFabric) (firsts : List ℕ) (wire place first : ℕ) → HasFirsts fabric firsts → sum_to place (place_wires fabric) ≤ wire → place < fabric.columns * fabric.rows → first ≡ get_or firsts place first → first ≤ wire
first_early fabric firsts wire place first has early in_grid read =
    let inside : place < length firsts = omega (arith, in_grid, has.as_many) in
    let first_is : first ≡ sum_to place (place_wires fabric) = read ∙ get_or_default_zero firsts place first inside ∙ has.each place in_grid in
    omega (arith, early, first_is)

-- the place and the number of a wire
pub spot_is : (fabric self : PlainFabric) (indexes : List TileIndex) (firsts : List ℕ) (wires wire place first : ℕ) → fabric ≡ self → IsIndexed fabric indexes firsts wires → IsLast fabric firsts wire place →
    first ≡ get_or firsts place first → (wire - first < wires_at self (place / fabric.rows) (place % fabric.rows)) × (wire ≡ wire_index self (place / fabric.rows) (place % fabric.rows) (wire - first))
spot_is fabric self indexes firsts wires wire place first view is last read =
    let x = place / fabric.rows in
    let y = place % fabric.rows in
    let inside : place < length firsts = omega (arith, last.in_grid, is.numbered.as_many) in
    let first_is : first ≡ sum_to place (place_wires fabric) = read ∙ get_or_default_zero firsts place first inside ∙ is.numbered.each place last.in_grid in
    let few : wire - first < wires_at fabric x y = omega (arith, last.begins, last.ends, first_is) in
    let low = (wired_within fabric x y (wire - first) few).1 in
    let back : place ≡ x * fabric.rows + y = sym (div-add-mod' place fabric.rows) in
    let summed : sum_to place (place_wires fabric) ≡ sum_to x (column_wires fabric) + sum_to y (wires_at fabric x) =
    ap (λ n. sum_to n (place_wires fabric)) back ∙ first_of_place fabric x y (omega (arith, low)) in
    let whole : wire ≡ wire_index fabric x y (wire - first) = omega (arith, last.begins, first_is, summed) in
    (subst (λ (f : PlainFabric). wire - first < wires_at f x y) view few, whole ∙ ap (λ (f : PlainFabric). wire_index f x y (wire - first)) view)
