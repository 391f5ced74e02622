-- The configuration bits of BELs, one behind the other.
use Rattle.std.proofs.Common.{◌≡◌, ℕ, zero, suc, ◌+◌, ◌<◌, List, [], ◌∷◌, ◌++◌, length, take, get_or, sum_by, slice_get, Option, Some, None, refl, ap, ◌∙◌, arith}
use Rattle.std.specs.Option.{option_map_or, SomeIff}
use Rattle.std.proofs.lemmas.List.{take_more}
use Rattle.std.proofs.lemmas.List.Sums.{sum_by-cons, sum_by-append}
use Rattle.fab_kinds.specs.Pins.{bit_count}
use Rattle.fab_model.specs.declared.tiles.Bel.{Bel}
use Rattle.fab_model.specs.Tiles.{bits_before}
use Rattle.fab_model.specs.inner.Numbering.{laid_bels}

abbrev pub bits_of : Bel → ℕ
bits_of bel = bit_count bel.kind

-- one BEL more
laid_behind : (low : ℕ) (bels : List Bel) (bel : Bel) → laid_bels low (bels ++ bel ∷ []) ≡ laid_bels low bels ++ (low + sum_by bits_of bels, bit_count bel.kind) ∷ []
laid_behind low [] bel = let same : low ≡ low + sum_by bits_of [] = omega arith in ap (λ n. (n, bit_count bel.kind) ∷ []) same
laid_behind low (first ∷ bels) bel =
    let w = bit_count first.kind in
    let same : low + w + sum_by bits_of bels ≡ low + sum_by bits_of (first ∷ bels) = omega (arith, sum_by-cons bits_of first bels) in
    ap (λ rest. (low, w) ∷ rest) (laid_behind (low + w) bels bel ∙ ap (λ n. laid_bels (low + w) bels ++ (n, bit_count bel.kind) ∷ []) same)

pub laid_more : (bels : List Bel) (i : ℕ) (d : Bel) → i < length bels →
    laid_bels 0 (take (i + 1) bels) ≡ laid_bels 0 (take i bels) ++ (sum_by bits_of (take i bels), bit_count (get_or bels i d).kind) ∷ []
laid_more bels i d within =
    let same : 0 + sum_by bits_of (take i bels) ≡ sum_by bits_of (take i bels) = omega arith in
    ap (laid_bels 0) (take_more bels i d within)
    ∙ laid_behind 0 (take i bels) (get_or bels i d)
    ∙ ap (λ n. laid_bels 0 (take i bels) ++ (n, bit_count (get_or bels i d).kind) ∷ []) same

-- the bits of one BEL more
pub bits_more : (bels : List Bel) (i : ℕ) (d : Bel) → i < length bels → sum_by bits_of (take (i + 1) bels) ≡ sum_by bits_of (take i bels) + bit_count (get_or bels i d).kind
bits_more bels i d within =
    ap (sum_by bits_of) (take_more bels i d within)
    ∙ sum_by-append bits_of (take i bels) (get_or bels i d ∷ [])
    ∙ omega arith

-- a sum that fits
pub sum_is : (low width next limit : ℕ) (found : Option ℕ) → SomeIff found (low + width < limit) (low + width) → found ≡ Some next → next ≡ low + width
sum_is low width next limit None fits is = absurd cc
sum_is low width next limit (Some other) fits is = let same : other ≡ next = cc in omega (arith, same, fits.1)

-- the field at a place
laid_at : (low : ℕ) (bels : List Bel) (place : ℕ) →
    get_or (laid_bels low bels) place (0, 0) ≡ option_map_or (λ (found : Bel). (low + bits_before bels place, bit_count found.kind)) (slice_get bels place) (0, 0)
laid_at low [] zero = refl
laid_at low [] (suc place) = refl
laid_at low (first ∷ bels) zero = let same : low ≡ low + bits_before (first ∷ bels) 0 = omega arith in ap (λ n. (n, bit_count first.kind)) same
laid_at low (first ∷ bels) (suc place) =
    let same : low + bit_count first.kind + bits_before bels place ≡ low + bits_before (first ∷ bels) (suc place) = omega (arith, sum_by-cons bits_of first (take place bels)) in
    laid_at (low + bit_count first.kind) bels place ∙ ap (λ n. option_map_or (λ (found : Bel). (n, bit_count found.kind)) (slice_get bels place) (0, 0)) same

pub field_at : (bels : List Bel) (place : ℕ) →
    get_or (laid_bels 0 bels) place (0, 0) ≡ option_map_or (λ (found : Bel). (bits_before bels place, bit_count found.kind)) (slice_get bels place) (0, 0)
field_at bels place =
    let same : 0 + bits_before bels place ≡ bits_before bels place = omega arith in
    laid_at 0 bels place ∙ ap (λ n. option_map_or (λ (found : Bel). (n, bit_count found.kind)) (slice_get bels place) (0, 0)) same
