-- The numbers of nets are below how many there are, and lead back to their names.
use Rattle.std.proofs.Common.{◌≡◌, ℕ, suc, ◌+◌, ◌<◌, true, List, [], ◌∷◌, map, length, get_or, flat_map, refl, ap, ◌∙◌, inl, inr, arith}
use Rattle.std.specs.List.{AllByRecursion as Each, list_any}
use Rattle.std.proofs.lemmas.Bool.{cases_Bool, false≢true}
use Rattle.std.proofs.lemmas.Slice.Eq.{bytes_eq-Decides}
use Rattle.indexmap.specs.IndexSet.{insert_key, insert_all}
use Rattle.fab_netlist.specs.Wide.{PlainWideCover}
use Rattle.fab_netlist.specs.declared.netlist.Latch.{Latch}
use Rattle.fab_blif.specs.declared.design.Use.{Use}
use Rattle.fab_blif.specs.Flat.{PlainNet, net_eq, Placed, placed_inputs, placed_outputs, placed_clock, copied_clock, placed_cover, placed_latch}
use Rattle.fab_blif.specs.Design.{covers_by, inputs_by, latches_by, named, nets_of, number_in, outputs_by, uses}
use Rattle.fab_blif.proofs.Designed.{insert_keeps, inserted}
use Rattle.fab_blif.proofs.Each.{each_flat, each_left, each_part, each_right}

abbrev pub IsThere : List PlainNet → PlainNet → Type 0
IsThere nets net = list_any (net_eq net) nets ≡ true

abbrev pub IsNamed : List PlainNet → Placed → Type 0
IsNamed nets placed = Each (IsThere nets) (named placed)

there_stays : (nets more : List PlainNet) (net : PlainNet) → IsThere nets net → IsThere (insert_all net_eq nets more) net
there_stays nets [] net there = there
there_stays nets (other ∷ more) net there = there_stays (insert_key net_eq nets other) more net (insert_keeps nets net other there).0

all_there : (nets more : List PlainNet) → Each (IsThere (insert_all net_eq nets more)) more
all_there nets [] = tt
all_there nets (net ∷ more) = (there_stays (insert_key net_eq nets net) more net (inserted nets net).0, all_there (insert_key net_eq nets net) more)

-- all nets that the lines of a text name are nets of the text
pub all_named : (text : List Placed) → Each (IsNamed (nets_of text)) text
all_named text = each_part (IsThere (nets_of text)) named text (all_there [] (flat_map named text))

pub number_below : (nets : List PlainNet) (net : PlainNet) → IsThere nets net → number_in nets net < length nets
number_below [] net there = absurd (false≢true there)
number_below (other ∷ nets) net there =
    elim (cases_Bool (net_eq net other)) [
      | inl t ↦ rw t (omega arith)
      | inr f ↦ (let rest : list_any (net_eq net) nets ≡ true = rw f at there in rw f (omega (arith, number_below nets net rest)))
    ]

same_name : (a b : PlainNet) → net_eq a b ≡ true → b.name ≡ a.name
same_name a b same = grind (arith, bytes_eq-Decides)

abbrev pub name_in : List PlainNet → ℕ → List ℕ
name_in nets number = get_or (map (λ (net : PlainNet). net.name) nets) number []

next_place : (nets : List PlainNet) (other : PlainNet) (number : ℕ) → name_in (other ∷ nets) (1 + number) ≡ name_in nets number
next_place nets other number = let same : 1 + number ≡ suc number = omega arith in ap (name_in (other ∷ nets)) same

pub name_back : (nets : List PlainNet) (net : PlainNet) → IsThere nets net → name_in nets (number_in nets net) ≡ net.name
name_back [] net there = absurd (false≢true there)
name_back (other ∷ nets) net there =
    elim (cases_Bool (net_eq net other)) [
      | inl t ↦ rw t (same_name net other t)
      | inr f ↦ (let rest : list_any (net_eq net) nets ≡ true = rw f at there in rw f (next_place nets other (number_in nets net) ∙ name_back nets net rest))
    ]

-- ---- the numbers that lines give

module _ (nets : List PlainNet) where
  abbrev pub IsBelow : ℕ → Type 0
  IsBelow number = number < length nets

  numbers_below : (names : List PlainNet) → Each (IsThere nets) names → Each IsBelow (map (number_in nets) names)
  numbers_below [] all = tt
  numbers_below (net ∷ names) all = (number_below nets net all.0, numbers_below names all.1)

  abbrev pub CoverBelow : PlainWideCover → Type 0
  CoverBelow made = Each IsBelow made.inputs × (made.output < length nets)

  abbrev pub LatchBelow : Latch → Type 0
  LatchBelow made = (made.input < length nets) × (made.output < length nets)

  abbrev pub UseBelow : Use → Type 0
  UseBelow used = used.net < length nets

  uses_below : (line : ℕ) (names : List PlainNet) → Each (IsThere nets) names → Each UseBelow (uses nets line names)
  uses_below line [] all = tt
  uses_below line (net ∷ names) all = (number_below nets net all.0, uses_below line names all.1)

  pub covers_below : (text : List Placed) → Each (IsNamed nets) text → Each CoverBelow (flat_map (covers_by nets) text)
  covers_below text all = each_flat (IsNamed nets) CoverBelow (covers_by nets) step text all
    where
      step : (placed : Placed) → IsNamed nets placed → Each CoverBelow (covers_by nets placed)
      step (placed_inputs line names) all = tt
      step (placed_outputs line names) all = tt
      step (placed_clock line net) all = tt
      step (copied_clock line net) all = tt
      step (placed_cover line names output on rows) all =
          ((numbers_below names (each_left (IsThere nets) names (output ∷ []) all), number_below nets output (each_right (IsThere nets) names (output ∷ []) all).0), tt)
      step (placed_latch line input output control initial) all = tt

  pub latches_below : (text : List Placed) → Each (IsNamed nets) text → Each LatchBelow (flat_map (latches_by nets) text)
  latches_below text all = each_flat (IsNamed nets) LatchBelow (latches_by nets) step text all
    where
      step : (placed : Placed) → IsNamed nets placed → Each LatchBelow (latches_by nets placed)
      step (placed_inputs line names) all = tt
      step (placed_outputs line names) all = tt
      step (placed_clock line net) all = tt
      step (copied_clock line net) all = tt
      step (placed_cover line names output on rows) all = tt
      step (placed_latch line input output control initial) all = ((number_below nets input all.0, number_below nets output all.1.0), tt)

  pub inputs_below : (text : List Placed) → Each (IsNamed nets) text → Each UseBelow (flat_map (inputs_by nets) text)
  inputs_below text all = each_flat (IsNamed nets) UseBelow (inputs_by nets) step text all
    where
      step : (placed : Placed) → IsNamed nets placed → Each UseBelow (inputs_by nets placed)
      step (placed_inputs line names) all = uses_below line names all
      step (placed_outputs line names) all = tt
      step (placed_clock line net) all = tt
      step (copied_clock line net) all = tt
      step (placed_cover line names output on rows) all = tt
      step (placed_latch line input output control initial) all = tt

  pub outputs_below : (text : List Placed) → Each (IsNamed nets) text → Each UseBelow (flat_map (outputs_by nets) text)
  outputs_below text all = each_flat (IsNamed nets) UseBelow (outputs_by nets) step text all
    where
      step : (placed : Placed) → IsNamed nets placed → Each UseBelow (outputs_by nets placed)
      step (placed_inputs line names) all = tt
      step (placed_outputs line names) all = uses_below line names all
      step (placed_clock line net) all = tt
      step (copied_clock line net) all = tt
      step (placed_cover line names output on rows) all = tt
      step (placed_latch line input output control initial) all = tt

  -- ---- the names of ports

  pub used_names : (line : ℕ) (names : List PlainNet) → Each (IsThere nets) names → map (λ (used : Use). name_in nets used.net) (uses nets line names) ≡ map (λ (net : PlainNet). net.name) names
  used_names line [] all = refl
  used_names line (net ∷ names) all = λ j. name_back nets net all.0 j ∷ used_names line names all.1 j
