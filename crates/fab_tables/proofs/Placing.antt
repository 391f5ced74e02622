-- The places that the rows of a configuration table give differ, and all are in frames.
use Rattle.std.proofs.Common.{◌≡◌, ◌≢◌, ℕ, zero, suc, ◌+◌, ◌<◌, ◌≤◌, Bool, true, false, List, [], ◌∷◌, ◌++◌, Option, Some, None, length, map, get_or, cond, eqb, All, AllPairs, refl, sym, ap, subst, ◌∙◌, ◌⊎◌, inl, inr, arith, append_assoc}
use Rattle.std.specs.Prelude.{option_map, unwrap_or, is_some, nat_eq, slice_get}
use Rattle.std.specs.List.{find, list_any}
use Rattle.std.specs.Option.{option_or}
use Rattle.std.proofs.lemmas.Bool.{cases_Bool, or_parts, and_parts}
use Rattle.std.proofs.lemmas.Bool.Decides.{nat_tests}
use Rattle.std.proofs.lemmas.List.Folds.{find-append, list_any-append}
use Rattle.fab_tables.specs.declared.entry.Entry.{Entry}
use Rattle.fab_tables.specs.Config.{ones, entries_with, entry_in, place_of}

abbrev Place : Type 0
Place = ℕ × ℕ

-- each is below the one before it, and the first below a bound
abbrev pub Falls : ℕ → List ℕ → Type 0
Falls bound [] = Unit {0}
Falls bound (bit ∷ bits) = (bit < bound) × Falls bit bits

falls_below : (low high : ℕ) (bits : List ℕ) → low ≤ high → Falls low bits → Falls high bits
falls_below low high [] le falls = tt
falls_below low high (bit ∷ bits) le falls = (omega (arith, falls.0), falls.1)

-- so do the used bits of a mask
pub ones_fall : (digits : List ℕ) → Falls (length digits) (ones digits)
ones_fall [] = tt
ones_fall (digit ∷ rest) = elim (cases_Bool (eqb digit 49)) [
  | inl one ↦ rw one ((omega arith, ones_fall rest))
  | inr none ↦ rw none (falls_below (length rest) (length (digit ∷ rest)) (ones rest) (omega arith) (ones_fall rest))
]

pub length-ones : (digits : List ℕ) → length (ones digits) ≤ length digits
length-ones [] = omega arith
length-ones (digit ∷ rest) = elim (cases_Bool (eqb digit 49)) [
  | inl one ↦ rw one (omega (arith, length-ones rest))
  | inr none ↦ rw none (omega (arith, length-ones rest))
]

-- ---- the places of one row

abbrev placed : Option Entry → Option Place
placed found = option_map (λ entry. entry.place) found

place_of_first : (frame bit one : ℕ) (entries : List Entry) (asked : ℕ) (place : Place) → eqb bit asked ≡ true → place_of (entry_in frame (bit, one) ∷ entries) asked ≡ Some place → (frame, one) ≡ place
place_of_first frame bit one entries asked place here so = let now = rw here at so in cc

place_of_rest : (frame bit one : ℕ) (entries : List Entry) (asked : ℕ) (place : Place) → eqb bit asked ≡ false → place_of (entry_in frame (bit, one) ∷ entries) asked ≡ Some place → place_of entries asked ≡ Some place
place_of_rest frame bit one entries asked place later so = rw later at so

-- a place is in the frame, and one of the bits
pub in_frame : (frame bound : ℕ) (bits ones : List ℕ) (asked : ℕ) (place : Place) → Falls bound ones → place_of (entries_with frame bits ones) asked ≡ Some place → (place.0 ≡ frame) × (place.1 < bound)
in_frame frame bound [] ones asked place falls so = absurd cc
in_frame frame bound (bit ∷ bits) [] asked place falls so = absurd cc
in_frame frame bound (bit ∷ bits) (one ∷ ones) asked place falls so = elim (cases_Bool (eqb bit asked)) [
  | inl here ↦
      let is = place_of_first frame bit one (entries_with frame bits ones) asked place here so in
      (sym (ap (λ (p : Place). p.0) is), subst (λ (p : Place). p.1 < bound) is falls.0)
  | inr later ↦
      let rest = in_frame frame one bits ones asked place falls.1 (place_of_rest frame bit one (entries_with frame bits ones) asked place later so) in
      (rest.0, omega (arith, rest.1, falls.0))
]

-- no two bits have one place
pub one_place : (frame bound : ℕ) (bits ones : List ℕ) (asked other : ℕ) (place : Place) → Falls bound ones
    → place_of (entries_with frame bits ones) asked ≡ Some place → place_of (entries_with frame bits ones) other ≡ Some place → asked ≡ other
one_place frame bound [] ones asked other place falls so also = absurd cc
one_place frame bound (bit ∷ bits) [] asked other place falls so also = absurd cc
one_place frame bound (bit ∷ bits) (one ∷ ones) asked other place falls so also = elim (cases_Bool (eqb bit asked)) [
  | inl here ↦ elim (cases_Bool (eqb bit other)) [
    | inl there ↦ grind (arith, nat_tests)
    | inr later ↦
        let is = place_of_first frame bit one (entries_with frame bits ones) asked place here so in
        let rest = in_frame frame one bits ones other place falls.1 (place_of_rest frame bit one (entries_with frame bits ones) other place later also) in
        absurd (omega (arith, rest.1, ap (λ (p : Place). p.1) is))
  ]
  | inr later ↦ elim (cases_Bool (eqb bit other)) [
    | inl there ↦
        let is = place_of_first frame bit one (entries_with frame bits ones) other place there also in
        let rest = in_frame frame one bits ones asked place falls.1 (place_of_rest frame bit one (entries_with frame bits ones) asked place later so) in
        absurd (omega (arith, rest.1, ap (λ (p : Place). p.1) is))
    | inr after ↦ one_place frame one bits ones asked other place falls.1 (place_of_rest frame bit one (entries_with frame bits ones) asked place later so) (place_of_rest frame bit one (entries_with frame bits ones) other place after also)
  ]
]

-- ---- the places of rows

-- the places are in these frames, and no two bits have one
pub record ArePlaces (frames : List ℕ) (entries : List Entry) : Type 0 where
  pub in_frames : (bit : ℕ) (place : Place) → place_of entries bit ≡ Some place → (place.0 < 20) × (place.1 < 32) × (list_any (nat_eq place.0) frames ≡ true)
  pub single : (bit other : ℕ) (place : Place) → place_of entries bit ≡ Some place → place_of entries other ≡ Some place → bit ≡ other

pub no_places : ArePlaces [] []
no_places = record { in_frames = λ bit place so. absurd cc; single = λ bit other place so also. absurd cc }

first_or_second : (first second : Option Entry) (place : Place) → placed (option_or first second) ≡ Some place → (placed first ≡ Some place) ⊎ (placed second ≡ Some place)
first_or_second None second place so = inr so
first_or_second (Some entry) second place so = inl so

-- an entry of both lists is one of the first or of the second
either_entry : (front back : List Entry) (bit : ℕ) (place : Place) → place_of (front ++ back) bit ≡ Some place → (place_of front bit ≡ Some place) ⊎ (place_of back bit ≡ Some place)
either_entry front back bit place so =
    first_or_second (find (λ entry. nat_eq entry.bit bit) front) (find (λ entry. nat_eq entry.bit bit) back) place
    (sym (ap placed (find-append (λ (entry : Entry). nat_eq entry.bit bit) front back)) ∙ so)

any_left : (test : ℕ → Bool) (xs ys : List ℕ) → list_any test xs ≡ true → list_any test (xs ++ ys) ≡ true
any_left test xs ys here = rw (list_any-append test xs ys, here) refl

any_last : (test : ℕ → Bool) (xs : List ℕ) (y : ℕ) → test y ≡ true → list_any test (xs ++ y ∷ []) ≡ true
any_last test [] y here = rw here refl
any_last test (x ∷ xs) y passes = elim (cases_Bool (test x)) [ inl here ↦ rw here refl | inr none ↦ rw none (any_last test xs y passes) ]

-- one row more, whose frame is new
pub more_places : (frames : List ℕ) (entries : List Entry) (frame : ℕ) (bits ones : List ℕ) → ArePlaces frames entries → frame < 20 → list_any (nat_eq frame) frames ≡ false → Falls 32 ones
    → ArePlaces (frames ++ frame ∷ []) (entries ++ entries_with frame bits ones)
more_places frames entries frame bits ones are below new falls =
    let row = entries_with frame bits ones in
    let same : (n : ℕ) → nat_eq n n ≡ true = λ n. grind (arith, nat_tests) in
    let apart : (place : Place) → list_any (nat_eq place.0) frames ≡ true → place.0 ≡ frame → ⊥ =
    λ place known is. (let other : list_any (nat_eq frame) frames ≡ true = ap (λ n. list_any (nat_eq n) frames) (sym is) ∙ known in absurd cc) in
    record {
      in_frames = λ bit place so. elim (either_entry entries row bit place so) [
        | inl old ↦ (let is = are.in_frames bit place old in (is.0, is.1, any_left (nat_eq place.0) frames (frame ∷ []) is.2))
        | inr now ↦
            let is = in_frame frame 32 bits ones bit place falls now in
            (omega (arith, is.0), is.1, any_last (nat_eq place.0) frames frame (ap (λ n. nat_eq n frame) is.0 ∙ same frame))
      ];
      single = λ bit other place so also. elim (either_entry entries row bit place so) [
        | inl old ↦ elim (either_entry entries row other place also) [
          | inl both ↦ are.single bit other place old both
          | inr now ↦ absurd (apart place (are.in_frames bit place old).2 (in_frame frame 32 bits ones other place falls now).0)
        ]
        | inr now ↦ elim (either_entry entries row other place also) [
          | inl old ↦ absurd (apart place (are.in_frames other place old).2 (in_frame frame 32 bits ones bit place falls now).0)
          | inr both ↦ one_place frame 32 bits ones bit other place falls now both
        ]
      ];
    }
