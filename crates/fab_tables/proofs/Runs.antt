-- Runs of numbers, and how many they are.
use Rattle.std.proofs.Common.{◌≡◌, ℕ, zero, suc, ◌+◌, ◌-◌, ◌*◌, ◌<◌, ◌≤◌, Bool, true, false, List, [], ◌∷◌, ◌++◌, length, map, take, get_or, min, max, cond, leb, ltb, ◌&&◌, refl, sym, ap, ◌∙◌, inl, inr, arith, append_assoc, append-nil}
use Rattle.std.specs.Prelude.{nat_lt, nat_le}
use Rattle.std.specs.List.{list_all, flat_map}
use Rattle.std.proofs.lemmas.Bool.{cases_Bool}
use Rattle.std.proofs.lemmas.Bool.Decides.{nat_tests}
use Rattle.std.specs.Char.{digit_value}
use Rattle.std.proofs.lemmas.List.{take_more}
use Rattle.std.proofs.lemmas.List.Folds.{list_all-append}
use Rattle.std.proofs.lemmas.List.Sums.{AllPass-from_list_all}
use Rattle.std.proofs.lemmas.Str.{digit_value_digit}
use Rattle.std.proofs.lemmas.Int.Digits.{digits_value_push}
use Rattle.fab_lines.specs.Numbers.{is_digit, number_of}
use Rattle.fab_model.specs.Tiles.{counted}
use Rattle.fab_model.proofs.Inserts.{counted_more}
use Rattle.fab_tables.specs.Config.{run, are_below}

pub length-counted : {X : Type 0} (n : ℕ) (f : ℕ → X) → length (counted n f) ≡ n
unfolding counted
length-counted zero f = refl
length-counted (suc n) f = ap (λ m. suc m) (length-counted n (λ i. f (suc i)))

pub length-run : (first last : ℕ) → length (run first last) ≡ max (first + 1 - last) (last + 1 - first)
length-run first last = elim (cases_Bool (nat_le first last)) [
  | inl up ↦ rw up (length-counted (last + 1 - first) (λ step. first + step) ∙ (grind (arith, nat_tests)))
  | inr down ↦ rw down (length-counted (first + 1 - last) (λ step. first - step) ∙ (grind (arith, nat_tests)))
]

-- one digit more of both numbers
pub lead_more : (a b first second lead : ℕ) → first ≤ 9 → second ≤ 9 → 0 < lead → lead ≡ min (a + 1 - b) 33
    → min ((lead - 1) * 10 + first + 1 - second) 33 ≡ min (a * 10 + first + 1 - (b * 10 + second)) 33
lead_more a b first second lead small other some so = omega arith

pub lead_none : (a b first second lead : ℕ) → first ≤ 9 → second ≤ 9 → lead ≤ 0 → lead ≡ min (a + 1 - b) 33
    → lead ≡ min (a * 10 + first + 1 - (b * 10 + second)) 33
lead_none a b first second lead small other none so = omega arith

-- one item more that is counted
pub counted_none : {X : Type 0} (start : List X) (f : ℕ → X) → start ≡ start ++ counted 0 f
unfolding counted
counted_none start f = sym (append-nil start)

pub counted_push : {X : Type 0} (f : ℕ → X) (start so_far new : List X) (n : ℕ) (x : X) → so_far ≡ start ++ counted n f → new ≡ so_far ++ x ∷ [] → x ≡ f n → new ≡ start ++ counted (n + 1) f
counted_push f start so_far new n x before is value =
    is
    ∙ (λ j. before j ++ value j ∷ [])
    ∙ append_assoc start (counted n f) (f n ∷ [])
    ∙ ap (λ back. start ++ back) (sym (counted_more n f))

all_counted : {X : Type 0} (test : X → Bool) (n : ℕ) (f : ℕ → X) → ((k : ℕ) → k < n → test (f k) ≡ true) → list_all test (counted n f) ≡ true
unfolding counted
all_counted test zero f each = refl
all_counted test (suc n) f each = rw (each 0 (omega arith)) (all_counted test n (λ k. f (suc k)) (λ k below. each (suc k) (omega arith)))

fails_counted : {X : Type 0} (test : X → Bool) (n : ℕ) (f : ℕ → X) (k : ℕ) → k < n → test (f k) ≡ false → list_all test (counted n f) ≡ false
unfolding counted
fails_counted test zero f k below fails = absurd (omega arith)
fails_counted test (suc n) f zero below fails = rw fails refl
fails_counted test (suc n) f (suc k) below fails =
    elim (cases_Bool (test (f 0))) [ inl passes ↦ rw passes (fails_counted test n (λ m. f (suc m)) k (omega arith) fails) | inr none ↦ rw none refl ]

up_below : (first last bound : ℕ) → first ≤ last → are_below bound (counted (last + 1 - first) (λ step. first + step)) ≡ (nat_lt first bound && nat_lt last bound)
up_below first last bound up = elim (cases_Bool (nat_lt last bound)) [
  | inl below ↦
      let first_below : nat_lt first bound ≡ true = grind (arith, nat_tests) in
      rw (below, first_below) (all_counted (λ bit. nat_lt bit bound) (last + 1 - first) (λ step. first + step) (λ k within. grind (arith, nat_tests)))
  | inr above ↦
      let fails : nat_lt (first + (last - first)) bound ≡ false = grind (arith, nat_tests) in
      let whole = fails_counted (λ bit. nat_lt bit bound) (last + 1 - first) (λ step. first + step) (last - first) (omega arith) fails in
      whole ∙ sym (elim (cases_Bool (nat_lt first bound)) [ inl t ↦ rw (t, above) refl | inr f ↦ rw f refl ])
]

down_below : (first last bound : ℕ) → last ≤ first → are_below bound (counted (first + 1 - last) (λ step. first - step)) ≡ (nat_lt first bound && nat_lt last bound)
down_below first last bound down = elim (cases_Bool (nat_lt first bound)) [
  | inl below ↦
      let last_below : nat_lt last bound ≡ true = grind (arith, nat_tests) in
      rw (below, last_below) (all_counted (λ bit. nat_lt bit bound) (first + 1 - last) (λ step. first - step) (λ k within. grind (arith, nat_tests)))
  | inr above ↦
      let fails : nat_lt (first - 0) bound ≡ false = grind (arith, nat_tests) in
      rw above (fails_counted (λ bit. nat_lt bit bound) (first + 1 - last) (λ step. first - step) 0 (omega arith) fails)
]

-- a run is below a bound where its ends are
pub run_below : (first last bound : ℕ) → are_below bound (run first last) ≡ (nat_lt first bound && nat_lt last bound)
run_below first last bound = elim (cases_Bool (nat_le first last)) [
  | inl up ↦ rw up (up_below first last bound (grind (arith, nat_tests)))
  | inr down ↦ rw down (down_below first last bound (grind (arith, nat_tests)))
]

-- a test of all items of lists
pub all_of_lists : {X Y : Type 0} (test : Y → Bool) (f : X → List Y) (xs : List X) → list_all test (flat_map f xs) ≡ list_all (λ x. list_all test (f x)) xs
all_of_lists test f [] = refl
all_of_lists test f (x ∷ xs) = list_all-append test (f x) (flat_map f xs) ∙ ap (λ rest. list_all test (f x) && rest) (all_of_lists test f xs)

-- how many bits an item lists
pub count_is : (first last x y : ℕ) → x ≡ min (first + 1 - last) 33 → y ≡ min (last + 1 - first) 33 → max x y ≡ min (length (run first last)) 33
count_is first last x y one other = omega (arith, length-run first last)

-- ---- digits

value_of_digit : (byte : ℕ) → is_digit byte ≡ true → digit_value byte ≡ byte - 48
value_of_digit byte is =
    let range : (48 ≤ byte) × (byte ≤ 57) = grind (arith, nat_tests) in
    omega (arith, digit_value_digit byte range)

pub digit_more : (word : List ℕ) (place digit : ℕ) → list_all is_digit word ≡ true → place < length word → digit ≡ get_or word place 0 - 48 → number_of (take (place + 1) word) ≡ number_of (take place word) * 10 + digit
digit_more word place digit all below is =
    ap number_of (take_more word place 0 below)
    ∙ digits_value_push 10 (take place word) (get_or word place 0)
    ∙ ap (λ d. number_of (take place word) * 10 + d) (value_of_digit (get_or word place 0) (AllPass-from_list_all is_digit word all place 0 below) ∙ sym is)
