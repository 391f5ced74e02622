-- A row is put into a table by blocks of 64 words.
use Rattle.std.proofs.Common.{◌≡◌, ℕ, zero, suc, ◌+◌, ◌-◌, ◌*◌, ◌/◌, ◌%◌, ◌^◌, ◌<◌, ◌≤◌, ◌⊎◌, false, List, [], ◌∷◌, ◌++◌, take, drop, set, length, get_or, length-drop, replicate, if◌then◌else◌, nat_eq, bit_and, refl, sym, ap, ◌∙◌, subst, inl, inr, arith, eqb-true, eq-eqb}
use Rattle.std.specs.Int.Bits.{and_self, bit_or}
use Rattle.std.proofs.lemmas.Bool.{cases_Bool, cases_lt, eqb-false, ne_eqb}
use Rattle.std.proofs.lemmas.List.{append_assoc, drop-drop, drop-take, drop_at, drop_more, get_or_at, length-take-le, set_at, take-append-drop, take-take, take_at, take_more}
use Rattle.std.proofs.lemmas.Nat.{and-not, and_assoc, and_block, and_comm, and_le_l, and_le_r, and_mask, and_mod, and_or_apart, and_shr, or_disjoint, pow-add}
use Rattle.std.proofs.Math.Nat.{pow-le-pow_right}
use borrow.Rule.Slice.PartMut.{put_mid}
use Rattle.fab_wide.specs.inner.Words.{IsPower, IsRowOf, joined, marked}
use Rattle.fab_wide.proofs.Marked.{asks, marked-append, marked_alike, marked_none, none_or}

-- ---- a few words, one at a time

pub length-marked : (care value bits place : ℕ) (words : List ℕ) → length (marked care value bits place words) ≡ length words
length-marked care value bits place [] = refl
length-marked care value bits place (word ∷ words) = ap suc (length-marked care value bits (suc place) words)

-- the bits of a row put into a word, or none
put_or_none : (care value bits place word : ℕ) →
    bit_or word (if asks care value place then bits else 0) ≡ (if asks care value place then bit_or word bits else word)
put_or_none care value bits place word =
    elim (cases_Bool (asks care value place)) [
      | inl asked ↦ rw asked refl
      | inr other ↦ rw other (none_or word)
    ]

pub marked_more : (care value bits : ℕ) (xs ys : List ℕ) (i extra : ℕ) → i < length xs → ys ≡ marked care value bits 0 (take i xs) ++ drop i xs →
    extra ≡ (if asks care value i then bits else 0) →
    set ys i (bit_or (get_or ys i 0) extra) ≡ marked care value bits 0 (take (i + 1) xs) ++ drop (i + 1) xs
marked_more care value bits xs ys i extra small is put =
    let word : ℕ = get_or xs i 0 in
    let front : List ℕ = marked care value bits 0 (take i xs) in
    let rest : List ℕ = drop (i + 1) xs in
    let many : length front ≡ i = length-marked care value bits 0 (take i xs) ∙ length-take-le i xs (omega (arith, small)) in
    let parts : ys ≡ front ++ word ∷ rest = is ∙ ap (λ more. front ++ more) (drop_more xs i 0 small) in
    let old : get_or ys i 0 ≡ word = ap (λ w. get_or w i 0) parts ∙ get_or_at front word rest 0 i many in
    let new : bit_or (get_or ys i 0) extra ≡ (if asks care value i then bit_or word bits else word) =
    (λ j. bit_or (old j) (put j)) ∙ put_or_none care value bits i word in
    let place : length (take i xs) + 0 ≡ i = omega (arith, length-take-le i xs (omega (arith, small))) in
    let one : marked care value bits (length (take i xs) + 0) (word ∷ []) ≡ bit_or (get_or ys i 0) extra ∷ [] =
    ap (λ p. marked care value bits p (word ∷ [])) place ∙ ap (λ w. w ∷ []) (sym new) in
    let more : marked care value bits 0 (take (i + 1) xs) ≡ front ++ bit_or (get_or ys i 0) extra ∷ [] =
    ap (marked care value bits 0) (take_more xs i 0 small) ∙ marked-append care value bits 0 (take i xs) (word ∷ []) ∙ ap (λ w. front ++ w) one in
    ap (λ w. set w i (bit_or (get_or ys i 0) extra)) parts ∙ set_at front word rest (bit_or (get_or ys i 0) extra) i many
    ∙ sym (append_assoc front (bit_or (get_or ys i 0) extra ∷ []) rest) ∙ ap (λ w. w ++ rest) (sym more)

-- ---- a block put into others

joined_one : (xs bs : List ℕ) (i : ℕ) → i < length xs → i < length bs →
    set (joined xs (take i bs)) i (bit_or (get_or (joined xs (take i bs)) i 0) (get_or bs i 0)) ≡ joined xs (take (suc i) bs)
joined_one [] bs i small within = absurd (omega (arith, small))
joined_one (x ∷ xs) [] i small within = absurd (omega (arith, within))
joined_one (x ∷ xs) (b ∷ bs) zero small within = refl
joined_one (x ∷ xs) (b ∷ bs) (suc i) small within =
    ap (λ words. bit_or x b ∷ words) (joined_one xs bs i (omega (arith, small)) (omega (arith, within)))

pub joined_more : (xs bs ys : List ℕ) (i : ℕ) → i < length xs → i < length bs → ys ≡ joined xs (take i bs) →
    set ys i (bit_or (get_or ys i 0) (get_or bs i 0)) ≡ joined xs (take (i + 1) bs)
joined_more xs bs ys i small within is =
    let one : suc i ≡ i + 1 = omega arith in
    ap (λ words. set words i (bit_or (get_or words i 0) (get_or bs i 0))) is ∙ joined_one xs bs i small within ∙ ap (λ n. joined xs (take n bs)) one

or_none : (n : ℕ) → bit_or 0 n ≡ n
or_none n =
    let none : bit_and 0 n ≡ 0 = omega (arith, and_le_l 0 n) in
    or_disjoint 0 n none ∙ omega arith

-- a block that was empty, with a row put into it
block_marks : (care value bits place : ℕ) (words : List ℕ) →
    joined words (marked care value bits place (replicate (length words) 0)) ≡ marked care value bits place words
block_marks care value bits place [] = refl
block_marks care value bits place (word ∷ words) =
    let rest = block_marks care value bits (suc place) words in
    let here : bit_or word (if asks care value place then bit_or 0 bits else 0) ≡ (if asks care value place then bit_or word bits else word) =
    ap (λ b. bit_or word (if asks care value place then b else 0)) (or_none bits) ∙ put_or_none care value bits place word in
    λ j. here j ∷ rest j

-- ---- the places of a block

module _ (care value : ℕ) where
  abbrev high_care : ℕ
  high_care = care / 64

  abbrev high_value : ℕ
  high_value = value / 64

  in_block : (b i : ℕ) → i < 64 → bit_and (i + 64 * b) care ≡ 64 * bit_and b high_care + bit_and i (care % 64)
  in_block b i small =
      let place : i + 64 * b ≡ b * 2 ^ 6 + i = omega arith in
      let row : care ≡ high_care * 2 ^ 6 + care % 64 = omega arith in
      (λ j. bit_and (place j) (row j)) ∙ and_block 6 b high_care i (care % 64) (omega (arith, small)) (omega arith) ∙ omega arith

  -- a block that the row passes over
  other_block : (b i : ℕ) → i < 64 → ((bit_and b high_care ≡ high_value) → ⊥) → asks care value (i + 64 * b) ≡ false
  other_block b i small other =
      ne_eqb (bit_and (i + 64 * b) care) value (λ e. other (omega (arith, e, in_block b i small, and_le_l i (care % 64), small)))

  same_behind : (h x y : ℕ) → nat_eq (h + x) (h + y) ≡ nat_eq x y
  same_behind h x y =
      elim (cases_Bool (nat_eq x y)) [
        | inl same ↦ rw same (eq-eqb (h + x) (h + y) (omega (arith, eqb-true x y same)))
        | inr other ↦ rw other (ne_eqb (h + x) (h + y) (λ e. eqb-false x y other (omega (arith, e))))
      ]

  -- a block that it has bits in
  same_block : (b i : ℕ) → i < 64 → bit_and b high_care ≡ high_value → asks care value (i + 64 * b) ≡ asks (care % 64) (value % 64) (i + 0)
  same_block b i small same =
      let whole : value ≡ 64 * high_value + value % 64 = omega arith in
      let alone : i ≡ i + 0 = omega arith in
      (λ j. nat_eq ((in_block b i small ∙ ap (λ h. 64 * h + bit_and i (care % 64)) same) j) (whole j))
      ∙ same_behind (64 * high_value) (bit_and i (care % 64)) (value % 64) ∙ ap (asks (care % 64) (value % 64)) alone

-- ---- the blocks of a row, from the last one down

one_and : (n : ℕ) → n < 2 → bit_and 1 n ≡ n
one_and n small = and_comm 1 n ∙ and_mask n 1 ∙ omega (arith, small)

-- No number has only bits that are free, and stands between one that has and the next one down.
next_free : (fuel free above other : ℕ) → above ≤ fuel → bit_and above free ≡ above → bit_and other free ≡ other → other < above →
    other ≤ bit_and (above - 1) free
next_free zero free above other bound has too less = absurd (omega (arith, bound, less))
next_free (suc fuel) free above other bound has too less =
    let half_has : bit_and (above / 2) (free / 2) ≡ above / 2 = sym (and_shr above free 1) ∙ ap (λ n. n / 2) has in
    let half_too : bit_and (other / 2) (free / 2) ≡ other / 2 = sym (and_shr other free 1) ∙ ap (λ n. n / 2) too in
    let rest_too : bit_and (other % 2) (free % 2) ≡ other % 2 = sym (and_mod other free 1) ∙ ap (λ n. n % 2) too in
    let whole : free ≡ free / 2 * 2 ^ 1 + free % 2 = omega arith in
    elim (cases_lt (above % 2) 1) [
      | inl even ↦ (
          let down : above - 1 ≡ (above / 2 - 1) * 2 ^ 1 + 1 = omega (arith, even, less) in
          let is = (λ j. bit_and (down j) (whole j)) ∙ and_block 1 (above / 2 - 1) (free / 2) 1 (free % 2) (omega arith) (omega arith) in
          let half = next_free fuel (free / 2) (above / 2) (other / 2) (omega (arith, bound, less)) half_has half_too (omega (arith, even, less)) in
          let last : other % 2 ≤ free % 2 = subst (λ n. n ≤ free % 2) rest_too (and_le_r (other % 2) (free % 2)) in
          omega (arith, is, one_and (free % 2) (omega arith), half, last))
      | inr odd ↦ (
          let down : above - 1 ≡ above / 2 * 2 ^ 1 + 0 = omega (arith, odd) in
          let is = (λ j. bit_and (down j) (whole j)) ∙ and_block 1 (above / 2) (free / 2) 0 (free % 2) (omega arith) (omega arith) in
          omega (arith, is, half_has, less, odd))
    ]

module _ (k care value : ℕ) (small : care < 2 ^ k) (cared : bit_and value care ≡ value) where
  abbrev free : ℕ
  free = 2 ^ k - 1 - care

  apart : bit_and free care ≡ 0
  apart = omega (arith, and-not k care care small small, and_self care)

  -- a row has bits in the blocks that have its value, and besides bits that are free
  chosen : (above : ℕ) → bit_and above free ≡ above → bit_and (value + above) care ≡ value
  chosen above has =
      let none : bit_and above care ≡ 0 =
      ap (λ n. bit_and n care) (sym has) ∙ and_assoc care above free ∙ ap (bit_and above) apart ∙ omega (arith, and_le_r above 0) in
      let both : bit_and value above ≡ 0 =
      ap (λ n. bit_and n above) (sym cared) ∙ and_assoc above value care ∙ ap (bit_and value) (and_comm care above ∙ none) ∙ omega (arith, and_le_r value 0) in
      ap (λ n. bit_and n care) (sym (or_disjoint value above both)) ∙ and_or_apart care value above none ∙ cared

  -- and in no others
  chosen_alone : (b : ℕ) → b < 2 ^ k → bit_and b care ≡ value → (b ≡ value + bit_and b free) × (bit_and (bit_and b free) free ≡ bit_and b free)
  chosen_alone b within same = (
    omega (arith, and-not k care b small within, and_comm free b, and_comm care b, same),
    and_assoc free b free ∙ ap (bit_and b) (and_self free),
  )

  -- no block between one of a row and the next one down
  none_between : (above b : ℕ) → (above ≡ free + 1) ⊎ (bit_and above free ≡ above) → value + bit_and (above - 1) free < b → b < value + above →
      b < 2 ^ k → bit_and b care ≡ value → ⊥
  none_between above b has over under within same =
      let is = chosen_alone b within same in
      let next : bit_and b free ≤ bit_and (above - 1) free =
      elim has [
        | inl first ↦ (
            let all : bit_and (above - 1) free ≡ free = ap (λ n. bit_and n free) (omega (arith, first)) ∙ and_self free in
            omega (arith, all, and_le_r b free))
        | inr more ↦ next_free above free above (bit_and b free) (omega arith) more is.1 (omega (arith, is.0, under))
      ] in
      omega (arith, next, is.0, over)

-- ---- the lists

take_sum : (n m : ℕ) (xs : List ℕ) → take (n + m) xs ≡ take n xs ++ take m (drop n xs)
take_sum n m xs = sym (take-append-drop n (take (n + m) xs)) ∙ (λ j. take-take n (n + m) xs (omega arith) j ++ drop-take n m xs j)

-- one block more, where the words behind it up to `end` are of blocks that the row passes over
put_one : (care value bits at end : ℕ) (front middle between back block : List ℕ) → length middle ≡ 64 → length between + (64 + at) ≡ end →
    block ≡ marked (care % 64) (value % 64) bits 0 (replicate 64 0) →
    ((i : ℕ) → i < 64 → asks care value (i + at) ≡ asks (care % 64) (value % 64) (i + 0)) →
    ((p : ℕ) → 64 + at ≤ p → p < end → asks care value p ≡ false) →
    front ++ (joined middle block ++ (between ++ marked care value bits end back)) ≡ front ++ marked care value bits at (middle ++ (between ++ back))
put_one care value bits at end front middle between back block many_middle many_between is same none =
    let fresh : block ≡ marked (care % 64) (value % 64) bits 0 (replicate (length middle) 0) =
    is ∙ ap (λ n. marked (care % 64) (value % 64) bits 0 (replicate n 0)) (sym many_middle) in
    let here : joined middle block ≡ marked care value bits at middle =
    ap (joined middle) fresh ∙ block_marks (care % 64) (value % 64) bits 0 middle
    ∙ sym (marked_alike care value (care % 64) (value % 64) bits at 0 middle (λ i small. same i (omega (arith, small, many_middle)))) in
    let past : between ≡ marked care value bits (length middle + at) between =
    sym (marked_none care value bits (length middle + at) between (λ i small. none (i + (length middle + at)) (omega (arith, many_middle))
    (omega (arith, small, many_middle, many_between)))) in
    let last : end ≡ length between + (length middle + at) = omega (arith, many_middle, many_between) in
    ap (λ rest. front ++ rest)
    ((λ j. here j ++ (past j ++ marked care value bits (last j) back))
    ∙ sym (marked-append care value bits at middle (between ++ back)
    ∙ ap (λ rest. marked care value bits at middle ++ rest) (marked-append care value bits (length middle + at) between back)))

-- the words of a table, marked from a place on
abbrev pub marked_from : (care value bits from : ℕ) → List ℕ → List ℕ
marked_from care value bits from old = take from old ++ marked care value bits from (drop from old)

put_block : (care value bits at end : ℕ) (old words block : List ℕ) → at + 64 ≤ end → end ≤ length old → words ≡ marked_from care value bits end old →
    block ≡ marked (care % 64) (value % 64) bits 0 (replicate 64 0) →
    ((i : ℕ) → i < 64 → asks care value (i + at) ≡ asks (care % 64) (value % 64) (i + 0)) →
    ((p : ℕ) → 64 + at ≤ p → p < end → asks care value p ≡ false) →
    put_mid at 64 words (joined (take 64 (drop at words)) block) ≡ marked_from care value bits at old
put_block care value bits at end old words block before within is made same none =
    let more : ℕ = end - (at + 64) in
    let front : List ℕ = take at old in
    let middle : List ℕ = take 64 (drop at old) in
    let between : List ℕ = take more (drop 64 (drop at old)) in
    let back : List ℕ = drop end old in
    let tail : List ℕ = marked care value bits end back in
    let sum : end ≡ at + (64 + more) = omega (arith, before) in
    let many_front : length front ≡ at = length-take-le at old (omega (arith, before, within)) in
    let many_middle : length middle ≡ 64 = length-take-le 64 (drop at old) (omega (arith, length-drop at old, before, within)) in
    let many_between : length between ≡ more =
    length-take-le more (drop 64 (drop at old)) (omega (arith, length-drop 64 (drop at old), length-drop at old, before, within)) in
    let taken : take end old ≡ front ++ (middle ++ between) =
    ap (λ n. take n old) sum ∙ take_sum at (64 + more) old ∙ ap (λ rest. front ++ rest) (take_sum 64 more (drop at old)) in
    let parts : words ≡ front ++ (middle ++ (between ++ tail)) =
    is ∙ ap (λ all. all ++ tail) taken ∙ append_assoc front (middle ++ between) tail ∙ ap (λ rest. front ++ rest) (append_assoc middle between tail) in
    let last : drop more (drop 64 (drop at old)) ≡ back =
    drop-drop more 64 (drop at old) ∙ drop-drop (64 + more) at old ∙ ap (λ n. drop n old) (sym sum) in
    let dropped : middle ++ (between ++ back) ≡ drop at old =
    ap (λ rest. middle ++ (between ++ rest)) (sym last) ∙ ap (λ rest. middle ++ rest) (take-append-drop more (drop 64 (drop at old)))
    ∙ take-append-drop 64 (drop at old) in
    let behind : drop at words ≡ middle ++ (between ++ tail) = ap (drop at) parts ∙ drop_at front (middle ++ (between ++ tail)) at many_front in
    let here : take 64 (drop at words) ≡ middle = ap (take 64) behind ∙ take_at middle (between ++ tail) 64 many_middle in
    let past : drop 64 (drop at words) ≡ between ++ tail = ap (drop 64) behind ∙ drop_at middle (between ++ tail) 64 many_middle in
    let before_it : take at words ≡ front = ap (take at) parts ∙ take_at front (middle ++ (between ++ tail)) at many_front in
    (λ j. before_it j ++ (joined (here j) block ++ past j))
    ∙ put_one care value bits at end front middle between back block many_middle (omega (arith, many_between, before)) made same none
    ∙ ap (λ rest. front ++ marked care value bits at rest) dropped

-- ---- a table of blocks

-- the place of the first word of the block that has so many behind the first one of a row
abbrev pub first_of : (value above : ℕ) → ℕ
first_of value above = 64 * (value / 64 + above)

-- How a table is marked from its last block down. `free` has the bits of a block's place that the row does not look at, and `above` only
-- such bits.
pub record AreBlocksMarked (care value bits free : ℕ) (old : List ℕ) : Type 0 where
  pub row_within : care / 64 < length old / 64
  pub within : (above : ℕ) → above ≤ free + 1 → first_of value above ≤ length old
  pub none : old ≡ marked_from care value bits (first_of value (free + 1)) old
  pub more : (above : ℕ) (words block : List ℕ) → 0 < above → (above ≡ free + 1) ⊎ (bit_and above free ≡ above) →
      words ≡ marked_from care value bits (first_of value above) old → block ≡ marked (care % 64) (value % 64) bits 0 (replicate 64 0) →
      put_mid (first_of value (bit_and (above - 1) free)) 64 words (joined (take 64 (drop (first_of value (bit_and (above - 1) free)) words)) block)
      ≡ marked_from care value bits (first_of value (bit_and (above - 1) free)) old
  pub all : marked_from care value bits (first_of value 0) old ≡ marked care value bits 0 old

module _ (k care value bits : ℕ) (old : List ℕ) (many : length old ≡ 64 * 2 ^ k) (row : IsRowOf (length old) care value) where
  high_small : care / 64 < 2 ^ k
  high_small = omega (arith, row.low, many)

  high_cared : bit_and (value / 64) (care / 64) ≡ value / 64
  high_cared = sym (and_shr value care 6) ∙ ap (λ n. n / 64) row.cared

  high_within : value / 64 ≤ care / 64
  high_within = subst (λ n. n ≤ care / 64) high_cared (and_le_r (value / 64) (care / 64))

  abbrev free_blocks : ℕ
  free_blocks = 2 ^ k - 1 - care / 64

  first_within : (above : ℕ) → above ≤ free_blocks + 1 → first_of value above ≤ length old
  first_within above few = omega (arith, few, many, high_small, high_within)

  -- a place of a block that the row has nothing in
  place_none : (p : ℕ) → (bit_and (p / 64) (care / 64) ≡ value / 64 → ⊥) → asks care value p ≡ false
  place_none p other =
      let place : p ≡ p % 64 + 64 * (p / 64) = omega arith in
      ap (asks care value) place ∙ other_block care value (p / 64) (p % 64) (omega arith) other

  none_behind : old ≡ marked_from care value bits (first_of value (free_blocks + 1)) old
  none_behind =
      let from : ℕ = first_of value (free_blocks + 1) in
      let passed = marked_none care value bits from (drop from old) (λ i small. place_none (i + from) (λ same.
      let block : ℕ = (i + from) / 64 in
      let within : block < 2 ^ k = omega (arith, small, length-drop from old, many) in
      let is = chosen_alone k (care / 64) (value / 64) high_small high_cared block within same in
      omega (arith, is.0, and_le_r block free_blocks))) in
      sym (take-append-drop from old) ∙ ap (λ rest. take from old ++ rest) (sym passed)

  block_more : (above : ℕ) (words block : List ℕ) → 0 < above → (above ≡ free_blocks + 1) ⊎ (bit_and above free_blocks ≡ above) →
      words ≡ marked_from care value bits (first_of value above) old → block ≡ marked (care % 64) (value % 64) bits 0 (replicate 64 0) →
      put_mid (first_of value (bit_and (above - 1) free_blocks)) 64 words
      (joined (take 64 (drop (first_of value (bit_and (above - 1) free_blocks)) words)) block)
      ≡ marked_from care value bits (first_of value (bit_and (above - 1) free_blocks)) old
  block_more above words block some has is made =
      let next : ℕ = bit_and (above - 1) free_blocks in
      let down : next ≤ above - 1 = and_le_l (above - 1) free_blocks in
      let few : above ≤ free_blocks + 1 = elim has [
        | inl first ↦ omega (arith, first)
        | inr more ↦ omega (arith, subst (λ n. n ≤ free_blocks) more (and_le_r above free_blocks))
      ] in
      let has_next : bit_and next free_blocks ≡ next = and_assoc free_blocks (above - 1) free_blocks ∙ ap (bit_and (above - 1)) (and_self free_blocks) in
      let same = chosen k (care / 64) (value / 64) high_small high_cared next has_next in
      put_block care value bits (first_of value next) (first_of value above) old words block (omega (arith, down, some)) (first_within above few) is made
      (λ i small. same_block care value (value / 64 + next) i small same)
      (λ p over under. place_none p (none_between k (care / 64) (value / 64) high_small high_cared above (p / 64) has (omega (arith, over))
      (omega (arith, under)) (omega (arith, under, first_within above few, many))))

  all_blocks : marked_from care value bits (first_of value 0) old ≡ marked care value bits 0 old
  all_blocks =
      let from : ℕ = first_of value 0 in
      let front : List ℕ = take from old in
      let many_front : length front ≡ from = length-take-le from old (first_within 0 (omega arith)) in
      let passed : marked care value bits 0 front ≡ front = marked_none care value bits 0 front (λ i small.
      ne_eqb (bit_and (i + 0) care) value (λ e. omega (arith, e, small, many_front, and_le_l (i + 0) care))) in
      let place : from ≡ length front + 0 = omega (arith, many_front) in
      (λ j. sym passed j ++ marked care value bits (place j) (drop from old))
      ∙ sym (marked-append care value bits 0 front (drop from old)) ∙ ap (marked care value bits 0) (take-append-drop from old)

  by_blocks : AreBlocksMarked care value bits free_blocks old
  by_blocks = record { row_within = omega (arith, high_small, many); within = first_within; none = none_behind; more = block_more; all = all_blocks }

blocks_of : (count : ℕ) → IsPower count → 64 < count → (k : ℕ) × (count ≡ 64 * 2 ^ k)
blocks_of count (k, is) large =
    elim (cases_lt k 6) [
      | inl few ↦ (
          let most : 2 ^ k ≤ 2 ^ 6 = pow-le-pow_right {n = 2} (omega arith) {i = k} {j = 6} (omega (arith, few)) in
          absurd (omega (arith, is, large, most)))
      | inr more ↦ (
          let parts : k ≡ 6 + (k - 6) = omega (arith, more) in
          (k - 6, is ∙ ap (λ n. 2 ^ n) parts ∙ pow-add 2 6 (k - 6)))
    ]

pub blocks_marked : (care value bits : ℕ) (old : List ℕ) → IsPower (length old) → IsRowOf (length old) care value → 64 < length old →
    AreBlocksMarked care value bits (length old / 64 - 1 - care / 64) old
blocks_marked care value bits old power row large =
    let blocks = blocks_of (length old) power large in
    let free : 2 ^ blocks.0 - 1 - care / 64 ≡ length old / 64 - 1 - care / 64 = omega (arith, blocks.1) in
    subst (λ n. AreBlocksMarked care value bits n old) free (by_blocks blocks.0 care value bits old blocks.1 row)
