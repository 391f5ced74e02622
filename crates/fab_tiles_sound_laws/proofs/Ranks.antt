-- In which group of the names of a tile's module a name stands, told from its bytes.
use Rattle.std.proofs.Common.{◌≡◌, ℕ, ◌<◌, Bool, true, false, ◌&&◌, List, [], ◌∷◌, ◌++◌, get_or, codes, refl, ap, ◌∙◌, arith, All, nat_eq, if◌then◌else◌}
use Rattle.std.specs.List.{starts_with}
use Rattle.std.proofs.lemmas.List.Elements.{All-nil, All-cons, All-append, All-weaker}
use Rattle.fab_parts_sound_laws.proofs.Names.{Differ, AreApart}
use Rattle.fab_parts_sound_laws.proofs.Lists.{pairs_none, pairs_append}
use Rattle.fab_parts_sound_laws.proofs.fab_tile_drives_laws_Endings.{last_byte}
use Rattle.fab_tiles_sound_laws.proofs.Digits.{first_byte, byte_apart}

-- a name that the generator makes
abbrev pub is_made : List ℕ → Bool
is_made name = starts_with nat_eq name (codes "fab_")

-- what comes or goes by a chain, a border bit, a port of a pad, the configuration bits, the configuration, the matrix, a BEL: by what
-- follows `fab_`
abbrev pub made_rank : (fifth sixth : ℕ) → ℕ
made_rank fifth sixth =
    if nat_eq fifth 111 then 5
    else if nat_eq fifth 105 then 5
    else if nat_eq fifth 112 then 6
    else if nat_eq fifth 99 then (if nat_eq sixth 104 then 4 else 9)
    else if nat_eq fifth 109 then 10
    else if nat_eq sixth 105 then 8
    else 11

-- a clock, the frame data, a strobe, a matrix name: by the last byte
abbrev pub plain_rank : (last : ℕ) → ℕ
plain_rank last =
    if nat_eq last 75 then 1
    else if nat_eq last 97 then 2
    else if nat_eq last 101 then 3
    else 7

abbrev pub rank : List ℕ → ℕ
rank name = if is_made name then made_rank (get_or name 4 0) (get_or name 5 0) else plain_rank (last_byte name 0)

-- ---- names in the order of their ranks

-- names above a rank, no two of them one
pub record StandAbove (low : ℕ) (names : List (List ℕ)) : Type 0 where
  pub above : All (λ name. low < rank name) names
  pub apart : AreApart names

pub none_above : (low : ℕ) → StandAbove low []
none_above low = record { above = All-nil (λ name. low < rank name); apart = pairs_none Differ }

ranks_differ : (here : ℕ) (x : List ℕ) (ys : List (List ℕ)) → rank x ≡ here → All (λ name. here < rank name) ys → All (Differ x) ys
ranks_differ here x ys is above k d within same =
    let equal : rank x ≡ rank (get_or ys k d) = ap rank same in
    let more : here < rank (get_or ys k d) = above k d within in
    omega arith

pub group_above : (low here : ℕ) (group names : List (List ℕ)) → low < here → All (λ name. rank name ≡ here) group → AreApart group → StandAbove here names →
    StandAbove low (group ++ names)
group_above low here group names less ranked apart later = record {
  above = All-append (λ name. low < rank name) group names
      (All-weaker (λ name. rank name ≡ here) (λ name. low < rank name) (λ name is. (let r : rank name ≡ here = is in omega arith)) group ranked)
      (All-weaker (λ name. here < rank name) (λ name. low < rank name) (λ name more. (let r : here < rank name = more in omega arith)) names later.above);
  apart = pairs_append Differ group names apart later.apart
      (All-weaker (λ name. rank name ≡ here) (λ x. All (Differ x) names) (λ x is. ranks_differ here x names is later.above) group ranked);
}

pub single_above : (low here : ℕ) (name : List ℕ) (names : List (List ℕ)) → low < here → rank name ≡ here → StandAbove here names → StandAbove low (name ∷ names)
single_above low here name names less is later =
    group_above low here (name ∷ []) names less (All-cons (λ n. rank n ≡ here) name [] is (All-nil (λ n. rank n ≡ here)))
    (λ i j d before within. absurd (omega arith)) later

-- ---- names that the generator does not make

and_false : (a : Bool) → (a && false) ≡ false
and_false true = refl
and_false false = refl

-- A word that is free stays so, whatever stands behind it that begins with a digit or a capital letter.
pub free_joined : (front tail : List ℕ) → is_made front ≡ false → first_byte tail < 95 → is_made (front ++ tail) ≡ false
free_joined [] [] free low = refl
free_joined [] (t ∷ tail) free low =
    let other : nat_eq 102 t ≡ false = byte_apart 102 t (λ same. (let equal : 102 ≡ t = same in omega arith)) in
    rw other refl
free_joined (a ∷ []) [] free low = free
free_joined (a ∷ []) (t ∷ tail) free low =
    let other : nat_eq 97 t ≡ false = byte_apart 97 t (λ same. (let equal : 97 ≡ t = same in omega arith)) in
    rw other (and_false (nat_eq 102 a))
free_joined (a ∷ b ∷ []) [] free low = free
free_joined (a ∷ b ∷ []) (t ∷ tail) free low =
    let other : nat_eq 98 t ≡ false = byte_apart 98 t (λ same. (let equal : 98 ≡ t = same in omega arith)) in
    rw other (ap (λ x. nat_eq 102 a && x) (and_false (nat_eq 97 b)) ∙ and_false (nat_eq 102 a))
free_joined (a ∷ b ∷ c ∷ []) [] free low = free
free_joined (a ∷ b ∷ c ∷ []) (t ∷ tail) free low =
    let other : nat_eq 95 t ≡ false = byte_apart 95 t (λ same. (let equal : 95 ≡ t = same in omega arith)) in
    rw other (ap (λ x. nat_eq 102 a && (nat_eq 97 b && x)) (and_false (nat_eq 98 c)) ∙ ap (λ x. nat_eq 102 a && x) (and_false (nat_eq 97 b)) ∙ and_false (nat_eq 102 a))
free_joined (a ∷ b ∷ c ∷ d ∷ front) tail free low = free

pub plain_is : (name : List ℕ) → is_made name ≡ false → plain_rank (last_byte name 0) ≡ 7 → rank name ≡ 7
plain_is name free plain = rw free plain

pub low_plain : (last : ℕ) → last < 58 → plain_rank last ≡ 7
low_plain last low =
    let k : nat_eq last 75 ≡ false = byte_apart last 75 (λ same. (let equal : last ≡ 75 = same in omega arith)) in
    let a : nat_eq last 97 ≡ false = byte_apart last 97 (λ same. (let equal : last ≡ 97 = same in omega arith)) in
    let e : nat_eq last 101 ≡ false = byte_apart last 101 (λ same. (let equal : last ≡ 101 = same in omega arith)) in
    rw k (rw a (rw e refl))
