-- Entries of a configuration table, one after the other.
use Rattle.std.proofs.Common.{◌≡◌, ℕ, zero, suc, ◌+◌, ◌<◌, ◌≤◌, Bool, true, false, ◌||◌, List, [], ◌∷◌, ◌++◌, Option, Some, None, Ok, length, map, take, drop, get_or, cond, refl, sym, ap, ◌∙◌, inl, inr, arith, add-one, drop-cons, append_assoc}
use Rattle.std.specs.Prelude.{nat_eq, unwrap_or, is_some}
use Rattle.std.specs.List.{list_any, zip}
use Rattle.std.proofs.lemmas.Bool.{cases_Bool}
use Rattle.std.proofs.lemmas.Bool.Decides.{nat_tests}
use Rattle.std.proofs.lemmas.List.{map_push, take_all, drop_all, length-map}
use Rattle.std.proofs.lemmas.Slice.Zip.{length-zip}
use Rattle.fab_base.specs.declared.words.Reason.TheVariants as reasons
use Rattle.fab_base.specs.declared.problem.Problem.{Problem}
use Rattle.fab_base.specs.declared.problem.Problem.TheVariants as problems
use Rattle.fab_model.specs.Tiles.{counted}
use Rattle.fab_tables.specs.declared.entry.Entry.{Entry}
use Rattle.fab_tables.specs.Config.{entry_in, entries_with, entry_bits, bits_twice, twice_reason, place_of, all_below}
use Rattle.fab_tables.specs.inner.FollowingConfig.{table_of, unless_placed}
use Rattle.fab_tables.proofs.Runs.{counted_push}

any_bit : (bit : ℕ) (entries : List Entry) → list_any (λ entry. nat_eq bit entry.bit) entries ≡ list_any (nat_eq bit) (entry_bits entries)
any_bit bit [] = refl
any_bit bit (entry ∷ entries) = ap (λ rest. nat_eq bit entry.bit || rest) (any_bit bit entries)

entries_take : (frame : ℕ) (bits ones : List ℕ) (place : ℕ) → place < length bits → length bits ≡ length ones
    → take (suc place) (entries_with frame bits ones) ≡ take place (entries_with frame bits ones) ++ entry_in frame (get_or bits place 0, get_or ones place 0) ∷ []
entries_take frame [] ones place below same = absurd (omega arith)
entries_take frame (bit ∷ bits) [] place below same = absurd (omega arith)
entries_take frame (bit ∷ bits) (one ∷ ones) zero below same = refl
entries_take frame (bit ∷ bits) (one ∷ ones) (suc place) below same = ap (λ rest. entry_in frame (bit, one) ∷ rest) (entries_take frame bits ones place (omega arith) (omega arith))

length-entries : (frame : ℕ) (bits ones : List ℕ) → length bits ≡ length ones → length (entries_with frame bits ones) ≡ length bits
length-entries frame [] ones same = refl
length-entries frame (bit ∷ bits) [] same = absurd (omega arith)
length-entries frame (bit ∷ bits) (one ∷ ones) same = ap (λ n. suc n) (length-entries frame bits ones (omega arith))

-- one entry more
pub entry_more : (frame : ℕ) (bits ones : List ℕ) (place bit one : ℕ) (start so_far new : List Entry) → place < length bits → length bits ≡ length ones → bit ≡ get_or bits place 0 → one ≡ get_or ones place 0
    → so_far ≡ start ++ take place (entries_with frame bits ones) → new ≡ so_far ++ entry_in frame (bit, one) ∷ [] → new ≡ start ++ take (place + 1) (entries_with frame bits ones)
entry_more frame bits ones place bit one start so_far new below same bit_is one_is before is =
    is
    ∙ (λ j. before j ++ entry_in frame (bit_is j, one_is j) ∷ [])
    ∙ append_assoc start (take place (entries_with frame bits ones)) (entry_in frame (get_or bits place 0, get_or ones place 0) ∷ [])
    ∙ ap (λ back. start ++ back) (sym (entries_take frame bits ones place below same) ∙ ap (λ n. take n (entries_with frame bits ones)) (sym (add-one place)))

-- the next bit is new
pub twice_later : (bits : List ℕ) (place bit : ℕ) (place_in : ℕ × ℕ) (entries new : List Entry) → place < length bits → bit ≡ get_or bits place 0 → list_any (λ entry. nat_eq bit entry.bit) entries ≡ false
    → new ≡ entries ++ record { bit = bit; place = place_in } ∷ [] → bits_twice (entry_bits new) (drop (place + 1) bits) ≡ bits_twice (entry_bits entries) (drop place bits)
twice_later bits place bit place_in entries new below bit_is fresh is =
    let next : drop place bits ≡ bit ∷ drop (place + 1) bits = drop-cons bits place 0 below ∙ sym (λ j. bit_is j ∷ drop (add-one place j) bits) in
    let none : list_any (nat_eq bit) (entry_bits entries) ≡ false = sym (any_bit bit entries) ∙ fresh in
    ap (λ (es : List Entry). bits_twice (entry_bits es) (drop (place + 1) bits)) is
    ∙ ap (λ before. bits_twice before (drop (place + 1) bits)) (map_push (λ (e : Entry). e.bit) entries (record { bit = bit; place = place_in }))
    ∙ sym (ap (bits_twice (entry_bits entries)) next ∙ ap (λ b. b || bits_twice (entry_bits entries ++ bit ∷ []) (drop (place + 1) bits)) none)

-- or stands before
pub twice_here : (bits : List ℕ) (place bit : ℕ) (entries : List Entry) → place < length bits → bit ≡ get_or bits place 0 → list_any (λ entry. nat_eq bit entry.bit) entries ≡ true → bits_twice (entry_bits entries) (drop place bits) ≡ true
twice_here bits place bit entries below bit_is here =
    let next : drop place bits ≡ get_or bits place 0 ∷ drop (suc place) bits = drop-cons bits place 0 below in
    let known : list_any (nat_eq (get_or bits place 0)) (entry_bits entries) ≡ true = ap (λ b. list_any (nat_eq b) (entry_bits entries)) (sym bit_is) ∙ sym (any_bit bit entries) ∙ here in
    ap (bits_twice (entry_bits entries)) next ∙ ap (λ b. b || bits_twice (entry_bits entries ++ get_or bits place 0 ∷ []) (drop (suc place) bits)) known

pub twice_refused : (start bits : List ℕ) → bits_twice start bits ≡ true → twice_reason start bits ≡ Some reasons.Bit
twice_refused start bits twice = rw twice refl

-- all have their places
pub all_entered : (frame : ℕ) (bits ones : List ℕ) (place : ℕ) (start so_far : List Entry) → length bits ≤ place → length bits ≡ length ones → so_far ≡ start ++ take place (entries_with frame bits ones) → so_far ≡ start ++ entries_with frame bits ones
all_entered frame bits ones place start so_far above same before = before ∙ ap (λ back. start ++ back) (take_all place (entries_with frame bits ones) (omega (arith, length-entries frame bits ones same)))

pub none_twice : (bits : List ℕ) (place : ℕ) (start so_far : List ℕ) → length bits ≤ place → bits_twice so_far (drop place bits) ≡ bits_twice start bits → twice_reason start bits ≡ None
none_twice bits place start so_far above same =
    let none : bits_twice start bits ≡ false = sym same ∙ ap (bits_twice so_far) (drop_all place bits above) in
    rw none refl

-- ---- the table

pub table_none : (entries : List Entry) (places : List (ℕ × ℕ)) → places ≡ [] → places ≡ table_of 0 entries
unfolding counted
table_none entries places so = so

pub table_more : (entries : List Entry) (places new : List (ℕ × ℕ)) (bit : ℕ) (place : ℕ × ℕ) → places ≡ table_of bit entries → place_of entries bit ≡ Some place → new ≡ places ++ place ∷ [] → new ≡ table_of (bit + 1) entries
table_more entries places new bit place before found is =
    counted_push (λ b. unwrap_or (place_of entries b) (0, 0)) [] places new bit place before is (sym (ap (λ (o : Option (ℕ × ℕ)). unwrap_or o (0, 0)) found))

pub all_more : (entries : List Entry) (bit : ℕ) (place : ℕ × ℕ) → all_below bit (λ b. is_some (place_of entries b)) ≡ true → place_of entries bit ≡ Some place → all_below (bit + 1) (λ b. is_some (place_of entries b)) ≡ true
all_more entries bit place before found = rw (add-one, before, found) refl

fails_below : (n : ℕ) (test : ℕ → Bool) (k : ℕ) → k < n → test k ≡ false → all_below n test ≡ false
fails_below zero test k below fails = absurd (omega arith)
fails_below (suc n) test k below fails = elim (cases_Bool (nat_eq k n)) [
  | inl last ↦ (let same : k ≡ n = grind (arith, nat_tests) in let now : test n ≡ false = ap test (sym same) ∙ fails in elim (cases_Bool (all_below n test)) [ inl t ↦ rw (t, now) refl | inr f ↦ rw f refl ])
  | inr before ↦ rw (fails_below n test k (grind (arith, nat_tests)) fails) refl
]

pub not_placed : (entries : List Entry) (bits bit : ℕ) → bit < bits → place_of entries bit ≡ None → unless_placed bits entries ≡ Some (problems.Malformed reasons.Bit)
not_placed entries bits bit below none =
    let fails : is_some (place_of entries bit) ≡ false = ap (λ (o : Option (ℕ × ℕ)). is_some o) none in
    rw (fails_below bits (λ b. is_some (place_of entries b)) bit below fails) refl
