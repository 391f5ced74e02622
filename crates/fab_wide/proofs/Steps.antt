-- One step of splitting a table that is given in words.
use Rattle.std.proofs.Common.{◌≡◌, ℕ, zero, suc, ◌+◌, ◌-◌, ◌*◌, ◌/◌, ◌^◌, ◌<◌, ◌≤◌, true, false, List, [], ◌∷◌, ◌++◌, take, drop, length, get_or, nat_eq, nat_lt, if◌then◌else◌, Result, Ok, Err, refl, sym, ap, ◌∙◌, subst, arith}
use Rattle.std.specs.Cmp.Lexicographic.{pointwise}
use Rattle.std.proofs.lemmas.Bool.{lt-ltb, le-ltb}
use Rattle.std.specs.Result.{OnOk}
use Rattle.std.proofs.lemmas.List.{append_assoc, nil_from_length}
use Rattle.fab_wide.specs.Split.{low_half, high_half, chooser, cover_with, taken, narrow}
use Rattle.fab_wide.specs.inner.Narrowing.{PlainNarrowing, narrowed, pushed, two_taken}
use Rattle.fab_wide.specs.inner.Words.{AreWords, number_of_words}
use Rattle.fab_wide.proofs.Joined.{twice, first_words, second_words, first_half, second_half, same_words}
use Rattle.fab_wide.proofs.Stays.{taken_none}

-- ---- at most four inputs

pub narrow_leaf : (line : ℕ) (inputs : List ℕ) (count table output fresh : ℕ) → count ≤ 4 →
    narrow line inputs count table output fresh ≡ cover_with line (take count inputs) output table ∷ []
narrow_leaf line inputs zero table output fresh few = refl
narrow_leaf line inputs (suc n) table output fresh few = rw (lt-ltb n 4 (omega (arith, few))) refl

pub narrowed_leaf : (line : ℕ) (inputs : List ℕ) (count table output : ℕ) (old : PlainNarrowing) → count ≤ 4 →
    pushed (cover_with line (take count inputs) output table) old ≡ narrowed line inputs count table output old
narrowed_leaf line inputs count table output old few =
    let covers = sym (narrow_leaf line inputs count table output old.fresh few) in
    let nets : old.fresh ≡ taken count table + old.fresh = omega (arith, taken_none count table few) in
    λ j. record { covers = old.covers ++ covers j; fresh = nets j }

-- an answer that is kept where it is right
pub on_ok : {X E : Type 0} (r : Result X E) {P Q : Type 0} → (P → Q) → OnOk r P → OnOk r Q
on_ok (Ok x) step given = step given
on_ok (Err e) step given = given

one_word : (words : List ℕ) (d : ℕ) → length words ≡ 1 → get_or words 0 d ≡ number_of_words words
one_word [] d one = absurd (omega (arith, one))
one_word (word ∷ words) d one = sym (ap (λ rest. word + 65536 * number_of_words rest) (nil_from_length words (omega (arith, one))) ∙ omega arith)

-- one word is the table of one cover
pub leaf_state : (line : ℕ) (inputs : List ℕ) (count : ℕ) (words : List ℕ) (output d at : ℕ) (nets : List ℕ) (old : PlainNarrowing) → count ≤ 4 →
    AreWords count words → at ≡ line → nets ≡ take count inputs →
    pushed (cover_with at nets output (get_or words 0 d)) old ≡ narrowed line inputs count (number_of_words words) output old
leaf_state line inputs count words output d at nets old few table line_is nets_are =
    let none : count - 4 ≡ 0 = omega (arith, few) in
    let one : length words ≡ 1 = table.many ∙ ap (λ k. 2 ^ k) none in
    (λ j. pushed (cover_with (line_is j) (nets_are j) output (one_word words d one j)) old) ∙ narrowed_leaf line inputs count (number_of_words words) output
    old few

-- ---- halves

-- two lists of words spell the halves of a table
pub record AreHalves (n : ℕ) (words low high : List ℕ) : Type 0 where
  pub low_words : AreWords n low
  pub high_words : AreWords n high
  pub low_is : low_half n (number_of_words words) ≡ number_of_words low
  pub high_is : high_half n (number_of_words words) ≡ number_of_words high
  pub same : nat_eq (low_half n (number_of_words words)) (high_half n (number_of_words words)) ≡ pointwise nat_eq low high
  pub many : length low + length high ≡ length words

halves_at : (n : ℕ) → 4 ≤ n → (words : List ℕ) (half : ℕ) → AreWords (suc n) words → half ≡ length words / 2 →
    AreHalves n words (take half words) (drop half words)
halves_at n above words half table is =
    let whole : 2 ^ (n - 4) ≡ half = omega (arith, twice n above words table, is) in
    subst (λ k. AreHalves n words (take k words) (drop k words)) whole (by_power n above words table)
  where
    by_power : (n : ℕ) (above : 4 ≤ n) (words : List ℕ) (table : AreWords (suc n) words) →
        AreHalves n words (take (2 ^ (n - 4)) words) (drop (2 ^ (n - 4)) words)
    by_power n above words table =
        let low = take (2 ^ (n - 4)) words in
        let high = drop (2 ^ (n - 4)) words in
        let low_words : AreWords n low = first_words n above words table in
        let high_words : AreWords n high = second_words n above words table in
        let low_is = sym (first_half n above words table) in
        let high_is = sym (second_half n above words table) in
        record {
          low_words = low_words;
          high_words = high_words;
          low_is = low_is;
          high_is = high_is;
          same = (λ j. nat_eq (low_is j) (high_is j)) ∙ sym (same_words low high (low_words.many ∙ sym high_words.many) low_words.small high_words.small);
          many = omega (arith, low_words.many, high_words.many, twice n above words table);
        }

-- the halves of the words for more than four inputs
pub halves : (count : ℕ) (words low high : List ℕ) → 4 < count → AreWords count words → low ≡ take (length words / 2) words →
    high ≡ drop (length words / 2) words → AreHalves (count - 1) words low high
halves count words low high more table low_is high_is =
    let last : count ≡ suc (count - 1) = omega (arith, more) in
    let whole : AreWords (suc (count - 1)) words = subst (λ k. AreWords k words) last table in
    subst (λ l. AreHalves (count - 1) words l high) (sym low_is)
    (subst (λ h. AreHalves (count - 1) words (take (length words / 2) words) h) (sym high_is) (halves_at (count - 1) (omega (arith, more)) words
    (length words / 2) whole refl))

-- what is taken for a table, and the covers that stand for it, by its halves
module _ (n : ℕ) (above : 4 ≤ n) (words low high : List ℕ) (half : AreHalves n words low high) where
  large : nat_lt n 4 ≡ false
  large = le-ltb n 4 above

  taken_more : taken (suc n) (number_of_words words) ≡ (if pointwise nat_eq low high then taken n (number_of_words low) else 2 +
      (taken n (number_of_words low) + taken n (number_of_words high)))
  taken_more = rw large (λ j. if half.same j then taken n (half.low_is j) else 2 + (taken n (half.low_is j) + taken n (half.high_is j)))

  narrow_more : (line : ℕ) (inputs : List ℕ) (output fresh : ℕ) →
      narrow line inputs (suc n) (number_of_words words) output fresh
      ≡ (if pointwise nat_eq low high then narrow line inputs n (number_of_words low) output fresh
      else narrow line inputs n (number_of_words low) fresh (2 + fresh)
      ++ (narrow line inputs n (number_of_words high) (1 + fresh) (taken n (number_of_words low) + (2 + fresh))
      ++ cover_with line (fresh ∷ (1 + fresh) ∷ get_or inputs n 0 ∷ []) output chooser ∷ []))
  narrow_more line inputs output fresh =
      rw large (λ j. if half.same j then narrow line inputs n (half.low_is j) output fresh
      else narrow line inputs n (half.low_is j) fresh (2 + fresh)
      ++ (narrow line inputs n (half.high_is j) (1 + fresh) (taken n (half.low_is j) + (2 + fresh))
      ++ cover_with line (fresh ∷ (1 + fresh) ∷ get_or inputs n 0 ∷ []) output chooser ∷ []))

taken_at : (count : ℕ) (words low high : List ℕ) → 4 < count → AreHalves (count - 1) words low high → taken count (number_of_words words)
    ≡ (if pointwise nat_eq low high then taken (count - 1) (number_of_words low) else 2 + (taken (count - 1) (number_of_words low) + taken (count - 1)
    (number_of_words high)))
taken_at count words low high more half =
    let last : count ≡ suc (count - 1) = omega (arith, more) in
    ap (λ k. taken k (number_of_words words)) last ∙ taken_more (count - 1) (omega (arith, more)) words low high half

narrow_at : (line : ℕ) (inputs : List ℕ) (count : ℕ) (words low high : List ℕ) (output fresh : ℕ) → 4 < count → AreHalves (count - 1) words low high →
    narrow line inputs count (number_of_words words) output fresh
    ≡ (if pointwise nat_eq low high then narrow line inputs (count - 1) (number_of_words low) output fresh
    else narrow line inputs (count - 1) (number_of_words low) fresh (2 + fresh)
    ++ (narrow line inputs (count - 1) (number_of_words high) (1 + fresh) (taken (count - 1) (number_of_words low) + (2 + fresh))
    ++ cover_with line (fresh ∷ (1 + fresh) ∷ get_or inputs (count - 1) 0 ∷ []) output chooser ∷ []))
narrow_at line inputs count words low high output fresh more half =
    let last : count ≡ suc (count - 1) = omega (arith, more) in
    ap (λ k. narrow line inputs k (number_of_words words) output fresh) last ∙ narrow_more (count - 1) (omega (arith, more)) words low high half line inputs
    output fresh

-- equal halves
pub taken_same : (count : ℕ) (words low high : List ℕ) → 4 < count → AreHalves (count - 1) words low high → pointwise nat_eq low high ≡ true →
    taken count (number_of_words words) ≡ taken (count - 1) (number_of_words low)
taken_same count words low high more half same = taken_at count words low high more half ∙ rw same refl

pub taken_two : (count : ℕ) (words low high : List ℕ) → 4 < count → AreHalves (count - 1) words low high → pointwise nat_eq low high ≡ false →
    taken count (number_of_words words) ≡ 2 + (taken (count - 1) (number_of_words low) + taken (count - 1) (number_of_words high))
taken_two count words low high more half other = taken_at count words low high more half ∙ rw other refl

pub narrowed_same : (line : ℕ) (inputs : List ℕ) (count : ℕ) (words low high : List ℕ) (output : ℕ) (old : PlainNarrowing) → 4 < count →
    AreHalves (count - 1) words low high → pointwise nat_eq low high ≡ true →
    narrowed line inputs (count - 1) (number_of_words low) output old ≡ narrowed line inputs count (number_of_words words) output old
narrowed_same line inputs count words low high output old more half same =
    let covers = sym (narrow_at line inputs count words low high output old.fresh more half ∙ rw same refl) in
    let nets = sym (taken_same count words low high more half same) in
    λ j. record { covers = old.covers ++ covers j; fresh = nets j + old.fresh }

-- halves that differ: two nets, the covers of each half, and the choice between them
pub narrowed_two : (line : ℕ) (inputs : List ℕ) (count : ℕ) (words low high : List ℕ) (output : ℕ) (old : PlainNarrowing) → 4 < count →
    AreHalves (count - 1) words low high → pointwise nat_eq low high ≡ false →
    pushed (cover_with line (old.fresh ∷ (1 + old.fresh) ∷ get_or inputs (count - 1) 0 ∷ []) output chooser)
    (narrowed line inputs (count - 1) (number_of_words high) (1 + old.fresh) (narrowed line inputs (count - 1) (number_of_words low) old.fresh (two_taken old)))
    ≡ narrowed line inputs count (number_of_words words) output old
narrowed_two line inputs count words low high output old more half other =
    let n = count - 1 in
    let fresh = old.fresh in
    let first = narrow line inputs n (number_of_words low) fresh (2 + fresh) in
    let second = narrow line inputs n (number_of_words high) (1 + fresh) (taken n (number_of_words low) + (2 + fresh)) in
    let last = cover_with line (fresh ∷ (1 + fresh) ∷ get_or inputs n 0 ∷ []) output chooser in
    let all : narrow line inputs count (number_of_words words) output fresh ≡ first ++ (second ++ last ∷ []) = narrow_at line inputs count words low high
    output fresh more half ∙ rw other refl in
    let covers : ((old.covers ++ first) ++ second) ++ last ∷ [] ≡ old.covers ++ narrow line inputs count (number_of_words words) output fresh =
    append_assoc (old.covers ++ first) second (last ∷ []) ∙ append_assoc old.covers first (second ++ last ∷ []) ∙ ap (λ parts. old.covers ++ parts) (sym all) in
    let nets : taken n (number_of_words high) + (taken n (number_of_words low) + (2 + fresh)) ≡ taken count (number_of_words words) + fresh =
    omega (arith, taken_two count words low high more half other) in
    λ j. record { covers = covers j; fresh = nets j }

-- the same where each step is told by its states
pub two_states : (line : ℕ) (inputs : List ℕ) (count : ℕ) (words low high : List ℕ) (output net at : ℕ) (nets : List ℕ)
    (old first second third : PlainNarrowing) →
    4 < count → AreHalves (count - 1) words low high → pointwise nat_eq low high ≡ false → net ≡ old.fresh → first ≡ two_taken old →
    second ≡ narrowed line inputs (count - 1) (number_of_words low) net first →
    third ≡ narrowed line inputs (count - 1) (number_of_words high) (1 + net) second →
    at ≡ line → nets ≡ net ∷ (1 + net) ∷ get_or inputs (count - 1) 0 ∷ [] →
    pushed (cover_with at nets output chooser) third ≡ narrowed line inputs count (number_of_words words) output old
two_states line inputs count words low high output net at nets old first second third more half other net_is first_is second_is third_is line_is nets_are =
    (λ j. pushed (cover_with (line_is j) (nets_are j) output chooser) (third_is j))
    ∙ (λ j. pushed (cover_with line (net ∷ (1 + net) ∷ get_or inputs (count - 1) 0 ∷ []) output chooser)
    (narrowed line inputs (count - 1) (number_of_words high) (1 + net) (second_is j)))
    ∙ (λ j. pushed (cover_with line (net_is j ∷ (1 + net_is j) ∷ get_or inputs (count - 1) 0 ∷ []) output chooser)
    (narrowed line inputs (count - 1) (number_of_words high) (1 + net_is j) (narrowed line inputs (count - 1) (number_of_words low) (net_is j) (first_is j))))
    ∙ narrowed_two line inputs count words low high output old more half other
