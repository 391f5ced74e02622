-- Inputs grouped by output.
use Rattle.std.proofs.Common.{◌≡◌, ℕ, ◌+◌, ◌<◌, cond, List, [], ◌∷◌, ◌++◌, Vec, length, map, filter, get_or, set, take, refl, sym, ap, ◌∙◌, inl, inr, nat_eq}
use Rattle.std.proofs.lemmas.Bool.{cases_Bool}
use Rattle.std.proofs.lemmas.Bool.Decides.{eqb_tells}
use Rattle.std.proofs.lemmas.List.{map-append, map-set, map_more, length-map, get_or-set_same, get_or-set_other, append-nil}
use Rattle.std.proofs.lemmas.List.Elements.{filter-append}
use Rattle.fab_model.specs.fab_select.specs.declared.pair.Pair.{Pair}
use Rattle.fab_model.specs.fab_select.specs.Selection.{inputs_of}
use Rattle.fab_model.specs.Tiles.{pair_numbers}
use Rattle.fab_model.specs.fab_bits.specs.Keys.{group_at}

-- one pair more
inputs_push : (pairs : List (ℕ × ℕ)) (pair : ℕ × ℕ) (output : ℕ) → inputs_of nat_eq (pairs ++ pair ∷ []) output ≡ (inputs_of nat_eq pairs output ++ cond (nat_eq pair.0 output) (pair.1 ∷ []) [])
inputs_push pairs pair output =
    let test : ℕ × ℕ → _ = λ p. nat_eq p.0 output in
    let second : ℕ × ℕ → ℕ = λ p. p.1 in
    ap (map second) (filter-append test pairs (pair ∷ []))
    ∙ map-append second (filter test pairs) (filter test (pair ∷ []))
    ∙ ap (λ more. inputs_of nat_eq pairs output ++ more) (elim (cases_Bool (nat_eq pair.0 output)) [ inl t ↦ rw t refl | inr f ↦ rw f refl ])

-- the groups after a pair
pub groups_more : {A : Type 0} (groups : List (Vec ℕ A)) (new : Vec ℕ A) (pairs : List Pair) (i : ℕ) (d : Pair) → i < length pairs →
    (get_or pairs i d).output < length groups → new.items ≡ group_at groups (get_or pairs i d).output ++ (get_or pairs i d).input ∷ [] →
    ((output : ℕ) → group_at groups output ≡ inputs_of nat_eq (map pair_numbers (take i pairs)) output) →
    (output : ℕ) → group_at (set groups (get_or pairs i d).output new) output ≡ inputs_of nat_eq (map pair_numbers (take (i + 1) pairs)) output
groups_more {A} groups new pairs i d in_pairs within is so_far output =
    let pair = get_or pairs i d in
    let before = map pair_numbers (take i pairs) in
    let items : Vec ℕ A → List ℕ = λ group. group.items in
    let long : pair.output < length (map items groups) = rw length-map within in
    let more : inputs_of nat_eq (map pair_numbers (take (i + 1) pairs)) output ≡ inputs_of nat_eq before output ++ cond (nat_eq pair.output output) (pair.input ∷ []) [] =
    ap (λ ps. inputs_of nat_eq ps output) (map_more pair_numbers pairs i d in_pairs) ∙ inputs_push before (pair_numbers pair) output in
    ap (λ lists. get_or lists output []) (map-set items groups pair.output new)
    ∙ elim (eqb_tells pair.output output) [
      | inl t ↦ (
          ap (λ k. get_or (set (map items groups) pair.output new.items) k []) (sym t.1)
          ∙ get_or-set_same (map items groups) pair.output new.items [] long
          ∙ is
          ∙ ap (λ front. front ++ pair.input ∷ []) (so_far pair.output ∙ ap (inputs_of nat_eq before) t.1)
          ∙ sym (ap (λ b. inputs_of nat_eq before output ++ cond b (pair.input ∷ []) []) t.0)
          ∙ sym more)
      | inr f ↦ (
          get_or-set_other (map items groups) pair.output output new.items [] (λ e. f.1 (sym e))
          ∙ so_far output
          ∙ sym (more ∙ rw (f.0, append-nil) refl))
    ]
