-- A line holds a word where it has a byte other than blank and tab.
use Rattle.std.proofs.Common.{◌≡◌, ℕ, true, List, [], ◌∷◌, length, filter, refl, sym, inl, inr, arith}
use Rattle.std.proofs.lemmas.Bool.Decides.{nat_tests}
use Rattle.std.specs.Prelude.{not, ◌==◌}
use Rattle.std.specs.List.{list_any, slice_split, onto_first}
use Rattle.std.proofs.lemmas.Bool.{cases_Bool}
use Rattle.fab_lines.specs.Parts.{is_blank}
use Rattle.fab_lines.specs.Items.{is_filled}

some_first : (byte : ℕ) (parts : List (List ℕ)) → not (length (filter is_filled (onto_first byte parts)) == 0) ≡ true
some_first byte [] = refl
some_first byte (part ∷ parts) =
    let filled : is_filled (byte ∷ part) ≡ true = grind (arith, nat_tests) in
    let longer : not (length ((byte ∷ part) ∷ filter is_filled parts) == 0) ≡ true = grind (arith, nat_tests) in
    rw filled longer

pub holds_some : (text : List ℕ) → list_any (λ byte. not (is_blank byte)) text ≡ not (length (filter is_filled (slice_split is_blank text)) == 0)
holds_some [] = refl
holds_some (byte ∷ text) = elim (cases_Bool (is_blank byte)) [
  | inl blank ↦ rw blank (holds_some text)
  | inr other ↦ rw other (sym (some_first byte (slice_split is_blank text)))
]
