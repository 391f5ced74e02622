-- Indices whose bits are all known.
use Rattle.std.proofs.Common.{◌≡◌, ℕ, suc, ◌+◌, ◌-◌, ◌*◌, ◌^◌, ◌<◌, Bool, true, false, List, [], ◌∷◌, ◌++◌, length, map, Option, Some, None, IfSome, refl, sym, ap, ap₂, ◌∙◌, arith, append_assoc, append-nil}
use Rattle.std.proofs.lemmas.List.{length-map, map-append}
use Rattle.fab_bits.specs.Bits.{bit_number, number}
use Rattle.fab_values.proofs.Evaluated.{number_lt}
use Rattle.fab_systems_laws.specs.Ternary.{Tern, known}
use Rattle.fab_solutions_laws.specs.fab_ternary_laws_Operators.{entry}
use Rattle.fab_solutions_laws.specs.fab_ternary_laws_Shown.{first_terns}
use Rattle.fab_compiled.specs.inner.Indices.{IsNumberBelow}
use Rattle.fab_compiled.proofs.Entries.{table, entry_no, entry_yes}

-- ---- an index bit by bit

pub none_below : (at : ℕ → Tern) (n above : ℕ) → n ≡ 0 → IsNumberBelow (first_terns n at) above above
none_below at n above e = ([], ap (λ m. first_terns m at) e, λ ups is. is)

-- one more bit, from the most significant one on
pub bit_below : (at : ℕ → Tern) (start place rest n above whole more : ℕ) (bit : Bool) → place ≡ rest + 1 → at (start + rest) ≡ known bit →
    more ≡ bit_number bit + 2 * whole → IsNumberBelow (first_terns n (λ k. at (start + (place + k)))) above whole →
    IsNumberBelow (first_terns (suc n) (λ k. at (start + (rest + k)))) above more
bit_below at start place rest n above whole more bit e here is below =
    let g : (k : ℕ) → at (start + (rest + suc k)) ≡ at (start + (place + k)) = λ k. ap at (omega (arith, e)) in
    let first : at (start + (rest + 0)) ≡ known bit = ap at (omega arith) ∙ here in
    let others : first_terns n (λ k. at (start + (rest + suc k))) ≡ map known below.0 = (λ j. first_terns n (λ k. g k j)) ∙ below.1 in (
      bit ∷ below.0,
      ap₂ (λ t ts. t ∷ ts) first others,
      λ ups same. is ∙ ap (λ m. bit_number bit + 2 * m) (below.2 ups same),
    )

-- all bits of points that follow one another
pub all_below : (at : ℕ → Tern) (start count place above whole : ℕ) → place ≡ 0 → IsNumberBelow (first_terns (count - place) (λ k. at (start + (place + k)))) above whole →
    IsNumberBelow (first_terns count (λ k. at (start + k))) above whole
all_below at start count place above whole none below =
    let many : count ≡ count - place = omega (arith, none) in
    let g : (k : ℕ) → at (start + k) ≡ at (start + (place + k)) = λ k. ap at (omega (arith, none)) in
    (below.0, (λ j. first_terns (many j) (λ k. g k j)) ∙ below.1, below.2)

-- the same where they are counted in two steps
pub points_below : (at : ℕ → Tern) (first place count above whole : ℕ) → IsNumberBelow (first_terns count (λ k. at (first + place + k))) above whole →
    IsNumberBelow (first_terns count (λ k. at (first + (place + k)))) above whole
points_below at first place count above whole below =
    let g : (k : ℕ) → at (first + (place + k)) ≡ at (first + place + k) = λ k. ap at (omega arith) in
    (below.0, (λ j. first_terns count (λ k. g k j)) ∙ below.1, below.2)

pub same_below : (ts us : List Tern) (above whole : ℕ) → us ≡ ts → IsNumberBelow ts above whole → IsNumberBelow us above whole
same_below ts us above whole is below = (below.0, is ∙ below.1, below.2)

-- what holds of a number that is found
pub each_some : (r : Option ℕ) (P Q : ℕ → Type 0) → ((n : ℕ) → P n → Q n) → IfSome r P → IfSome r Q
each_some (Some n) P Q f h = f n h
each_some None P Q f h = tt

-- two parts of an index
pub parts_below : (ts us vs : List Tern) (above upper whole : ℕ) → vs ≡ ts ++ us → IsNumberBelow us above upper → IsNumberBelow ts upper whole → IsNumberBelow vs above whole
parts_below ts us vs above upper whole is high low = (
  low.0 ++ high.0,
  is ∙ ap₂ (λ xs ys. xs ++ ys) low.1 high.1 ∙ sym (map-append known low.0 high.0),
  λ ups same. low.2 (high.0 ++ ups) (high.2 ups same) ∙ ap number (sym (append_assoc low.0 high.0 ups)),
)

-- ---- the entry at its number

pub known_pick : (at : ℕ → Tern) (bits : List Bool) (first stride : ℕ) → entry (table at (length bits) first stride) (map known bits) ≡ at (first + stride * number bits)
known_pick at [] first stride = refl
known_pick at (false ∷ bits) first stride =
    entry_no at (length bits) first stride (map known bits)
    ∙ known_pick at bits first (2 * stride)
    ∙ ap at (omega arith)
known_pick at (true ∷ bits) first stride =
    entry_yes at (length bits) first stride (map known bits)
    ∙ known_pick at bits (first + stride) (2 * stride)
    ∙ ap at (omega arith)

module _ (at : ℕ → Tern) (index : List Tern) (width start whole : ℕ) (long : length index ≡ width) (is : IsNumberBelow index 0 whole) where
  whole_is : whole ≡ number is.0
  whole_is = is.2 [] refl ∙ ap number (append-nil is.0)

  wide : length is.0 ≡ width
  wide = sym (length-map is.0 known) ∙ ap length (sym is.1) ∙ long

  pub whole_small : whole < 2 ^ width
  whole_small = omega (arith, whole_is, number_lt is.0, ap (λ n. 2 ^ n) wide)

  pub picked_is : at (start + whole) ≡ entry (first_terns (2 ^ width) (λ k. at (start + k))) index
  picked_is =
      let g : (k : ℕ) → at (start + 1 * k) ≡ at (start + k) = λ k. ap at (omega arith) in
      ap at (omega (arith, whole_is))
      ∙ sym (known_pick at is.0 start 1)
      ∙ ap₂ (λ n ts. entry (table at n start 1) ts) wide (sym is.1)
      ∙ (λ j. entry (first_terns (2 ^ width) (λ k. g k j)) index)
