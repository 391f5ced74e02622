-- Pads in order by their numbers.
use Rattle.std.proofs.Common.{◌≡◌, ◌⊎◌, ℕ, ◌+◌, ◌<◌, ◌≤◌, Bool, true, false, not, ◌||◌, List, [], ◌∷◌, ◌++◌, Option, Some, None, length, get_or, take, drop, map, zero, suc, nat_eq, refl, sym, ◌∙◌, ap, subst, inl, inr, arith}
use Rattle.std.specs.List.{All, Contains, IsDistinct, filter, list_any}
use Rattle.std.proofs.lemmas.List.Elements.{filter-append}
use Rattle.std.proofs.lemmas.List.{get_or_default, append-nil, append_assoc, take_more, drop_more}
use Rattle.std.proofs.lemmas.Bool.{false≢true}
use Rattle.std.proofs.lemmas.Cmp.{nat_eq_equiv}
use Rattle.std.proofs.lemmas.List.Filters.{length-filter_both}
use Rattle.std.proofs.lemmas.Map.Made.{length-le_from_is_member, IsDistinct-from_AllPairs}
use Rattle.std.proofs.lemmas.Bool.Decides.{Decides-eqb}
use Rattle.fab_model.specs.Tiles.{counted}
use Rattle.fab_place.specs.inner.Starts.{is_number, is_taken, free_numbers, loose, numbers_in_order}
use Rattle.fab_netlist.proofs.Members.{first_in, later_in, first_or_later, any_by, any_gives}
use Rattle.fab_ways_laws.proofs.fab_legal_Sets.{any_in, in_any}
use Rattle.fab_ways_laws.proofs.Lists.{from_filter, from_counted}
use Rattle.fab_place.proofs.Listed.{counted_last}
use Rattle.fab_place.proofs.Counting.{length_counted}
use Rattle.fab_place.proofs.Once.{Once, once_filter, once_counted, once_at}

-- ---- the pads of constraints

unfoldable pub pads_of : List (Option ℕ) → List ℕ
pads_of [] = []
pads_of (Some pad ∷ constrained) = pad ∷ pads_of constrained
pads_of (None ∷ constrained) = pads_of constrained

pads_and_loose : (constrained : List (Option ℕ)) → length (pads_of constrained) + loose constrained ≡ length constrained
unfolding pads_of
pads_and_loose [] = refl
pads_and_loose (Some pad ∷ constrained) = omega (arith, pads_and_loose constrained)
pads_and_loose (None ∷ constrained) = omega (arith, pads_and_loose constrained)

pub from_pads : (constrained : List (Option ℕ)) (pad : ℕ) → Contains (pads_of constrained) pad → Contains constrained (Some pad)
unfolding pads_of
from_pads [] pad h = absurd (omega (arith, h.1))
from_pads (Some other ∷ constrained) pad h = elim (first_or_later other (pads_of constrained) pad h) [
  | inl e ↦ first_in (Some other) constrained (Some pad) (ap (λ n. Some n) e)
  | inr l ↦ later_in (Some other) constrained (Some pad) (from_pads constrained pad l)
]
from_pads (None ∷ constrained) pad h = later_in None constrained (Some pad) (from_pads constrained pad h)

same_some : (a b : ℕ) → ◌≡◌ {A = Option ℕ} (Some a) (Some b) → a ≡ b
same_some a b e = cc

no_some : (a : ℕ) → ◌≡◌ {A = Option ℕ} None (Some a) → ⊥
no_some a e = cc

pub into_pads : (constrained : List (Option ℕ)) (pad : ℕ) → Contains constrained (Some pad) → Contains (pads_of constrained) pad
unfolding pads_of
into_pads [] pad h = absurd (omega (arith, h.1))
into_pads (Some other ∷ constrained) pad h = elim (first_or_later (Some other) constrained (Some pad) h) [
  | inl e ↦ first_in other (pads_of constrained) pad (same_some other pad e)
  | inr l ↦ later_in other (pads_of constrained) pad (into_pads constrained pad l)
]
into_pads (None ∷ constrained) pad h = elim (first_or_later None constrained (Some pad) h) [
  | inl e ↦ absurd (no_some pad e)
  | inr l ↦ into_pads constrained pad l
]

number_is : (pad : ℕ) (found : Option ℕ) → is_number pad found ≡ true → found ≡ Some pad
number_is pad None h = absurd (false≢true h)
number_is pad (Some other) h = ap (λ n. Some n) (sym ((Decides-eqb pad other).0 h))

pub taken_is : (constrained : List (Option ℕ)) (pad : ℕ) → is_taken constrained pad ≡ true → Contains constrained (Some pad)
taken_is constrained pad h =
    let found = any_gives (is_number pad) constrained h in
    subst (λ (c : Option ℕ). Contains constrained c) (number_is pad found.0 found.2) found.1

pub is_taken_by : (constrained : List (Option ℕ)) (pad : ℕ) → Contains constrained (Some pad) → is_taken constrained pad ≡ true
is_taken_by constrained pad h = any_by (is_number pad) constrained (Some pad) h ((Decides-eqb pad pad).1 refl)

-- ---- there are pads enough

nat_distinct : (xs : List ℕ) → Once xs → IsDistinct nat_eq xs
nat_distinct xs once = IsDistinct-from_AllPairs Decides-eqb xs (λ i j d less low e. (let same = once_at xs i j d once (omega (arith, less, low)) low e in omega (arith, less, same)))

-- what each once stands in another list is no longer than that
pub no_longer : (xs ys : List ℕ) → Once xs → ((x : ℕ) → Contains xs x → Contains ys x) → length xs ≤ length ys
no_longer xs ys once into = length-le_from_is_member nat_eq_equiv xs ys (nat_distinct xs once) (λ q h. in_any nat_eq Decides-eqb ys q (into q (any_in nat_eq Decides-eqb xs q h)))

numbers_once : (n : ℕ) → Once (counted n (λ i. i))
numbers_once n = once_counted n (λ i. i) (λ i j li lj e. e)

pub enough : (constrained : List (Option ℕ)) (pads : ℕ) → length constrained ≤ pads → loose constrained ≤ length (free_numbers constrained pads)
enough constrained pads few =
    let numbers = counted pads (λ i. i) in
    let both = length-filter_both (is_taken constrained) (λ pad. not (is_taken constrained pad)) (λ x. refl) numbers in
    let short = no_longer (filter (is_taken constrained) numbers) (pads_of constrained) (once_filter (is_taken constrained) numbers (numbers_once pads))
    (λ x h. into_pads constrained x (taken_is constrained x (from_filter (is_taken constrained) numbers x h).1)) in
    omega (arith, both, short, pads_and_loose constrained, few, length_counted pads (λ i. i))

-- ---- pads in order

pub length_in_order : (constrained : List (Option ℕ)) (free : List ℕ) → length (numbers_in_order free constrained) ≡ length constrained
length_in_order [] free = refl
length_in_order (Some pad ∷ constrained) free = ap suc (length_in_order constrained free)
length_in_order (None ∷ constrained) free = ap suc (length_in_order constrained (drop 1 free))

pub from_in_order : (constrained : List (Option ℕ)) (free : List ℕ) (pad : ℕ) → loose constrained ≤ length free → Contains (numbers_in_order free constrained) pad → Contains (pads_of constrained) pad ⊎ Contains free pad
unfolding pads_of
from_in_order [] free pad enough h = absurd (omega (arith, h.1))
from_in_order (Some other ∷ constrained) free pad enough h = elim (first_or_later other (numbers_in_order free constrained) pad h) [
  | inl e ↦ inl (first_in other (pads_of constrained) pad e)
  | inr l ↦ elim (from_in_order constrained free pad enough l) [ inl a ↦ inl (later_in other (pads_of constrained) pad a) | inr b ↦ inr b ]
]
from_in_order (None ∷ constrained) [] pad enough h = absurd (omega (arith, enough))
from_in_order (None ∷ constrained) (first ∷ free) pad enough h = elim (first_or_later first (numbers_in_order free constrained) pad h) [
  | inl e ↦ inr (first_in first free pad e)
  | inr l ↦ elim (from_in_order constrained free pad (omega (arith, enough)) l) [ inl a ↦ inl a | inr b ↦ inr (later_in first free pad b) ]
]

pub once_in_order : (constrained : List (Option ℕ)) (free : List ℕ) → loose constrained ≤ length free → Once free → Once (pads_of constrained) → ((pad : ℕ) → Contains free pad → Contains (pads_of constrained) pad → ⊥) → Once (numbers_in_order free constrained)
unfolding pads_of
once_in_order [] free enough once pads apart = tt
once_in_order (Some pad ∷ constrained) free enough once pads apart =
    let here : Contains (numbers_in_order free constrained) pad → ⊥ = λ h. elim (from_in_order constrained free pad enough h) [
      | inl a ↦ pads.0 a
      | inr b ↦ apart pad b (first_in pad (pads_of constrained) pad refl)
    ] in
    (here, once_in_order constrained free enough once pads.1 (λ other f p. apart other f (later_in pad (pads_of constrained) other p)))
once_in_order (None ∷ constrained) [] enough once pads apart = absurd (omega (arith, enough))
once_in_order (None ∷ constrained) (first ∷ free) enough once pads apart =
    let here : Contains (numbers_in_order free constrained) first → ⊥ = λ h. elim (from_in_order constrained free first (omega (arith, enough)) h) [
      | inl a ↦ apart first (first_in first free first refl) a
      | inr b ↦ once.0 b
    ] in
    (here, once_in_order constrained free (omega (arith, enough)) once.1 pads (λ other f p. apart other (later_in first free other f) p))

pub at_in_order : (constrained : List (Option ℕ)) (free : List ℕ) (place pad : ℕ) → get_or constrained place None ≡ Some pad → get_or (numbers_in_order free constrained) place 0 ≡ pad
at_in_order [] free place pad is = absurd (no_some pad is)
at_in_order (Some other ∷ constrained) free zero pad is = same_some other pad is
at_in_order (Some other ∷ constrained) free (suc place) pad is = at_in_order constrained free place pad is
at_in_order (None ∷ constrained) free zero pad is = absurd (no_some pad is)
at_in_order (None ∷ constrained) free (suc place) pad is = at_in_order constrained (drop 1 free) place pad is

pub free_low : (constrained : List (Option ℕ)) (pads : ℕ) → All (λ pad. pad < pads) (free_numbers constrained pads)
free_low constrained pads k d low =
    let found = from_filter (λ pad. not (is_taken constrained pad)) (counted pads (λ i. i)) (get_or (free_numbers constrained pads) k d) (k, low, get_or_default (free_numbers constrained pads) k (get_or (free_numbers constrained pads) k d) d low) in
    let inside = from_counted pads (λ i. i) (get_or (free_numbers constrained pads) k d) found.0 in
    omega (arith, inside.1, inside.2)

-- ---- one port more

or_false : (b : Bool) → (b || false) ≡ b
or_false true = refl
or_false false = refl

or_assoc : (a b c : Bool) → (a || (b || c)) ≡ ((a || b) || c)
or_assoc true b c = refl
or_assoc false b c = refl

any_push : {X : Type 0} (test : X → Bool) (xs : List X) (x : X) → list_any test (xs ++ x ∷ []) ≡ (list_any test xs || test x)
any_push test [] x = or_false (test x)
any_push test (y ∷ ys) x = ap (λ later. test y || later) (any_push test ys x) ∙ or_assoc (test y) (list_any test ys) (test x)

pub taken_more : (constrained : List (Option ℕ)) (k pad : ℕ) → k < length constrained → is_taken (take (k + 1) constrained) pad ≡ (is_taken (take k constrained) pad || is_number pad (get_or constrained k None))
taken_more constrained k pad low = ap (λ (cs : List (Option ℕ)). is_taken cs pad) (take_more constrained k None low) ∙ any_push (is_number pad) (take k constrained) (get_or constrained k None)

kept_last : (p : ℕ → Bool) (n : ℕ) → filter p (counted (n + 1) (λ i. i)) ≡ filter p (counted n (λ i. i)) ++ filter p (n ∷ [])
kept_last p n = ap (λ m. filter p (counted m (λ i. i))) (let e : n + 1 ≡ suc n = omega arith in e) ∙ ap (filter p) (counted_last n (λ i. i)) ∙ filter-append p (counted n (λ i. i)) (n ∷ [])

pub free_yes : (p : ℕ → Bool) (n : ℕ) → p n ≡ true → filter p (counted (n + 1) (λ i. i)) ≡ filter p (counted n (λ i. i)) ++ n ∷ []
free_yes p n is = kept_last p n ∙ ap (λ (last : List ℕ). filter p (counted n (λ i. i)) ++ last) (let e : filter p (n ∷ []) ≡ n ∷ [] = rw is in e)

pub free_no : (p : ℕ → Bool) (n : ℕ) → p n ≡ false → filter p (counted (n + 1) (λ i. i)) ≡ filter p (counted n (λ i. i))
free_no p n is = kept_last p n ∙ ap (λ (last : List ℕ). filter p (counted n (λ i. i)) ++ last) (let e : filter p (n ∷ []) ≡ [] = rw is in e) ∙ append-nil (filter p (counted n (λ i. i)))

pub ports_more : (luts : ℕ) (constrained : List (Option ℕ)) (k number : ℕ) (free rest before after end : List ℕ) → k < length constrained → numbers_in_order free (get_or constrained k None ∷ drop (k + 1) constrained) ≡ number ∷ numbers_in_order rest (drop (k + 1) constrained)
    → before ++ map (λ pad. luts + pad) (numbers_in_order free (drop k constrained)) ≡ end → after ≡ before ++ (luts + number) ∷ [] → after ++ map (λ pad. luts + pad) (numbers_in_order rest (drop (k + 1) constrained)) ≡ end
ports_more luts constrained k number free rest before after end low next so_far is =
    let later = map (λ pad. luts + pad) (numbers_in_order rest (drop (k + 1) constrained)) in
    ap (λ (front : List ℕ). front ++ later) is ∙ append_assoc before ((luts + number) ∷ []) later
    ∙ ap (λ (pads : List ℕ). before ++ map (λ pad. luts + pad) pads) (sym next) ∙ ap (λ (cs : List (Option ℕ)). before ++ map (λ pad. luts + pad) (numbers_in_order free cs)) (sym (drop_more constrained k None low)) ∙ so_far

pub loose_more : (constrained : List (Option ℕ)) (k : ℕ) → k < length constrained → loose (drop k constrained) ≡ loose (get_or constrained k None ∷ drop (k + 1) constrained)
loose_more constrained k low = ap loose (drop_more constrained k None low)

pub loose_one : (pad : Option ℕ) (later : List (Option ℕ)) → loose (pad ∷ []) ≤ loose (pad ∷ later)
loose_one None later = omega arith
loose_one (Some pad) later = omega arith

pub free_none : (p : ℕ → Bool) → [] ≡ filter p (counted 0 (λ i. i))
unfolding counted
free_none p = refl
