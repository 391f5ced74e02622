-- An order goes through all points, however it is shuffled.
use Rattle.std.proofs.Common.{◌≡◌, ℕ, zero, suc, ◌+◌, ◌%◌, ◌<◌, ◌≤◌, Bool, true, List, [], ◌∷◌, length, slice_get, swap, IsPermutation, Contains, Some, refl, sym, ap, ◌∙◌, subst, arith, mod-lt, unwrap_or}
use Rattle.std.specs.List.{AllZip, range_with_len}
use Rattle.std.proofs.lemmas.List.FromFn.{length-range_with_len, get_or-range_with_len}
use Rattle.std.proofs.lemmas.List.Sorted.{IsPermutation-refl, IsPermutation-swap, IsPermutation-trans, Contains-permutation, length_permutation}
use Rattle.std.proofs.lemmas.Option.{slice_get-get_or}
use Rattle.fab_draws.specs.Draws.{behind}
use Rattle.fab_draws.specs.Shuffled.{shuffled}
use Rattle.fab_syntax.specs.Plain.{PlainModule}
use Rattle.fab_syntax.specs.Sound.{IsSound}
use Rattle.fab_meaning.specs.Points.{Point}
use Rattle.fab_meaning.specs.Reads.{is_declared}
use Rattle.fab_meaning.proofs.SoundTexts.{contains_first, contains_later}
use Rattle.fab_equations.specs.Instances.{points}
use Rattle.fab_equations.specs.Equations.{IsPoint}
use Rattle.fab_equations.proofs.Points.{declared_are_points}

shuffled_permutes : (places : ℕ) (draws : ℕ → ℕ) (order : List ℕ) → places ≤ length order → IsPermutation order (shuffled places draws order)
shuffled_permutes zero draws order fit = IsPermutation-refl order
shuffled_permutes (suc zero) draws order fit = IsPermutation-refl order
shuffled_permutes (suc (suc i)) draws order fit =
    let other : ℕ = draws 0 % suc (suc i) in
    let below : other < suc (suc i) = mod-lt (draws 0) {m = suc (suc i)} (omega arith) in
    let moved : List ℕ = swap order (suc i) other in
    let one : IsPermutation order moved = IsPermutation-swap order moved (suc i) other (omega arith) (omega (arith, below)) refl in
    IsPermutation-trans order moved (shuffled (suc i) (behind 1 draws) moved) one
    (shuffled_permutes (suc i) (behind 1 draws) moved (omega (arith, length_permutation order moved one)))

-- each point of the text stands in the order
abbrev pub HasAll : List PlainModule → List ℕ → Type 0
HasAll text order = (number : ℕ) → number < length (points text) → Contains order number

pub first_order : (text : List PlainModule) → HasAll text (range_with_len 0 (length (points text)))
first_order text number within = (
  number,
  omega (arith, length-range_with_len 0 (length (points text))),
  get_or-range_with_len 0 (length (points text)) number number within ∙ omega arith,
)

pub shuffled_all : (text : List PlainModule) (draws : ℕ → ℕ) (order : List ℕ) → HasAll text order → HasAll text (shuffled (length order) draws order)
shuffled_all text draws order all number within =
    Contains-permutation order (shuffled (length order) draws order) number (shuffled_permutes (length order) draws order (omega arith)) (all number within)

-- what stands on one of two lists has its like on the other
zip_finds : {X Y : Type 0} (R : X → Y → Type 0) (xs : List X) (ys : List Y) → AllZip R xs ys → (x : X) → Contains xs x → (y : Y) × Contains ys y × R x y
zip_finds R [] ys zip x there = absurd (omega (arith, there.1))
zip_finds R (a ∷ xs) [] zip x there = absurd zip
zip_finds R (a ∷ xs) (b ∷ ys) zip x (zero, within, is) = (b, contains_first b b ys refl, subst (λ z. R z b) is zip.0)
zip_finds R (a ∷ xs) (b ∷ ys) zip x (suc place, within, is) =
    let later = zip_finds R xs ys zip.1 x (place, omega (arith, within), is) in
    (later.0, contains_later b later.0 ys later.1, later.2)

-- so each declared point is activated
pub all_activated : (text : List PlainModule) → IsSound text → (order : List ℕ) (activated : List Point) → HasAll text order →
    AllZip (IsPoint text) order activated → (p : Point) → is_declared text p ≡ true → Contains activated p
all_activated text sound order activated all numbered p declared =
    let at = declared_are_points text sound p declared in
    let found = zip_finds (IsPoint text) order activated numbered at.0 (all at.0 at.1) in
    let is : Some found.0 ≡ Some p = sym found.2 ∙ slice_get-get_or (points text) at.0 p at.1 ∙ ap Some at.2 in
    subst (Contains activated) (ap (λ o. unwrap_or o p) is) found.1
