-- The places of words among others.
use Rattle.std.proofs.Common.{◌≡◌, ℕ, ◌<◌, Bool, true, List, [], length, get_or, Contains, Option, Some, None, refl, sym, inl, inr, arith}
use Rattle.std.specs.Prelude.{position, unwrap_or}
use Rattle.std.specs.Str.{bytes_eq}
use Rattle.std.specs.List.{position_or_len}
use Rattle.std.proofs.lemmas.Bool.{cases_lt, lt-ltb}
use Rattle.std.proofs.lemmas.List.Quantifiers.{position-Some}
use Rattle.std.proofs.lemmas.List.Sums.{fails_before_first}
use Rattle.std.proofs.lemmas.Slice.Eq.{bytes_eq-Decides}
use Rattle.fab_texts.specs.Rows.{Word}
use Rattle.fab_state.specs.Spelled.{AreApart}
use Rattle.fab_state.proofs.LineForms.{equal_words}
use Rattle.fab_stimulus.specs.Stimuli.{place_in}

-- a word that stands among others has a place there
pub record Stands (words : List Word) (word : Word) (place : ℕ) : Type 0 where
  pub within : place < length words
  pub is : get_or words place [] ≡ word

by_position : (words : List Word) (word : Word) (found : Option ℕ) → position (bytes_eq word) words ≡ found → Contains words word → Stands words word (unwrap_or found 0)
by_position words word (Some place) so here =
    let at = position-Some (bytes_eq word) words place [] so in
    record { within = at.0; is = sym (equal_words word (get_or words place []) at.1) }
by_position words word None so here = absurd (no_position (bytes_eq word) words here.0 word here.1 (here_passes here.0 here.1 here.2) so)
  where
    here_passes : (k : ℕ) → k < length words → get_or words k word ≡ word → bytes_eq word (get_or words k word) ≡ true
    here_passes k below same = (bytes_eq-Decides word (get_or words k word)).1 (sym same)

    no_position : (test : Word → Bool) (words : List Word) (k : ℕ) (d : Word) → k < length words → test (get_or words k d) ≡ true → position test words ≡ None → ⊥
    no_position test words k d below passes none = elim (cases_lt (position_or_len test words) (length words)) [
      | inl inside ↦ (let found : position test words ≡ Some (position_or_len test words) = rw (lt-ltb (position_or_len test words) (length words) inside) refl in absurd cc)
      | inr past ↦ (let fails = fails_before_first test words k d (omega (arith, past, below)) in absurd cc)
    ]

pub stands_at : (words : List Word) (word : Word) → Contains words word → Stands words word (place_in words word)
stands_at words word here = by_position words word (position (bytes_eq word) words) refl here

-- two places of one word are one
pub one_place : (words : List Word) (i j : ℕ) → AreApart words → i < length words → j < length words → get_or words i [] ≡ get_or words j [] → i ≡ j
one_place words i j apart below_i below_j same = elim (cases_lt i j) [
  | inl less ↦ absurd (apart i j [] less below_j same)
  | inr not_less ↦ elim (cases_lt j i) [
    | inl more ↦ absurd (apart j i [] more below_i (sym same))
    | inr not_more ↦ omega (arith, not_less, not_more)
  ]
]

pub place_again : (words : List Word) (i : ℕ) → AreApart words → i < length words → Contains words (get_or words i []) → place_in words (get_or words i []) ≡ i
place_again words i apart below here =
    let at = stands_at words (get_or words i []) here in
    one_place words (place_in words (get_or words i [])) i apart at.within below at.is
