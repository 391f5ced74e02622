-- What the tables of nets hold, and the spans that are kept of nets.
use Rattle.std.proofs.Common.{◌≡◌, ◌≢◌, ◌⊎◌, ℕ, ◌+◌, ◌-◌, ◌*◌, ◌<◌, ◌≤◌, ◌^◌, List, [], ◌∷◌, ◌++◌, length, get_or, set, zero, suc, sum_by, Vec, Global, refl, sym, ◌∙◌, ap, subst, inl, inr, eqb, arith, length-set, get_or-set_same, get_or-set_other}
use Rattle.std.proofs.lemmas.Bool.{cases_eq, cases_Bool, both_ways}
use Rattle.std.proofs.lemmas.Cmp.{nat_eq_equiv}
use Rattle.std.proofs.lemmas.Grind.{get_or_default_zero}
use Rattle.std.proofs.lemmas.Map.Views.{Contains-from_any, list_any-from_Contains, exact_unsigned_eq}
use Rattle.std.proofs.lemmas.List.{get_or_append_left, get_or_default, get_or_push, length_push, set-get_or}
use Rattle.std.proofs.lemmas.List.Elements.{All-set, All-push, Contains-get_or}
use Rattle.std.proofs.lemmas.List.Sums.{sum_by-set, sum_by-le, get_or-le-sum_by}
use Rattle.std.specs.List.{All, Contains, list_any, slice_get}
use Rattle.fab_annealing.specs.declared.axis.Span.{Span}
use Rattle.fab_annealing.specs.declared.nets.Nets.{Nets}
use Rattle.fab_annealing.specs.Spans.{span_of}
use Rattle.fab_annealing.specs.Measured.{numbers_of, items_of, nets_of, net_count, item_count, IsNets, no_span, width, IsStretched, IsRight, IsShaped, IsMeasured, AreNoted, HasMoved, AreRenewed, undone}
use Rattle.fab_annealing.proofs.Extremes.{stretched_right, span_same}

-- a list of numbers that was read by index
pub numbers_read : (lists : List (Vec ℕ Global)) (k : ℕ) (list : Vec ℕ Global) → k < length lists → list ≡ get_or lists k list → list.items ≡ numbers_of (slice_get lists k)
numbers_read [] k list inside read = absurd (omega (arith, inside))
numbers_read (first ∷ lists) zero list inside read = ap (λ (v : Vec ℕ Global). v.items) read
numbers_read (first ∷ lists) (suc k) list inside read = numbers_read lists k list (omega arith) read

-- a span that was read by index
pub span_read : (spans : List Span) (k : ℕ) (span : Span) → k < length spans → span ≡ get_or spans k span → span ≡ get_or spans k no_span
span_read spans k span inside read = read ∙ get_or_default spans k span no_span inside

-- ---- changes that are undone

pub undone_push : (changed : List (ℕ × Span)) (entry : ℕ × Span) (spans : List Span) → undone (changed ++ entry ∷ []) spans ≡ undone changed (set spans entry.0 entry.1)
undone_push [] entry spans = refl
undone_push (first ∷ changed) entry spans = ap (λ s. set s first.0 first.1) (undone_push changed entry spans)

pub set_set : {X : Type 0} (xs : List X) (k : ℕ) (x y : X) → set (set xs k x) k y ≡ set xs k y
set_set [] k x y = refl
set_set (z ∷ xs) zero x y = refl
set_set (z ∷ xs) (suc k) x y = ap (λ ys. z ∷ ys) (set_set xs k x y)

-- a change and its note
pub undone_more : (changed : List (ℕ × Span)) (spans : List Span) (k : ℕ) (new : Span) → undone (changed ++ (k, get_or spans k no_span) ∷ []) (set spans k new) ≡ undone changed spans
undone_more changed spans k new =
    undone_push changed (k, get_or spans k no_span) (set spans k new)
    ∙ ap (undone changed) (set_set spans k new (get_or spans k no_span) ∙ set-get_or spans k no_span)

-- a list has a number, or not
pub cases_contains : (xs : List ℕ) (k : ℕ) → Contains xs k ⊎ (Contains xs k → ⊥)
cases_contains xs k = elim (cases_Bool (list_any (eqb k) xs)) [
  | inl h ↦ inl (Contains-from_any exact_unsigned_eq k xs h)
  | inr h ↦ inr (λ c. both_ways (list_any (eqb k) xs) h (list_any-from_Contains nat_eq_equiv k xs c))
]

-- what holds at each place of a list holds of each of its elements
at_each : (nets : Nets) (places : List ℕ) (spans : List Span) (touching : List ℕ) → ((n : ℕ) → n < length touching → IsRight nets places spans (get_or touching n 0))
    → (k : ℕ) → Contains touching k → IsRight nets places spans k
at_each nets places spans touching h k among = subst (λ x. IsRight nets places spans x) (sym (get_or_default_zero touching among.0 k among.1) ∙ among.2) (h among.0 among.1)

-- ---- the spans of the nets of an item that moved

module _ (nets : Nets) (places : List ℕ) (spans : List Span) (k : ℕ) (new : Span) (inside : k < length spans) (value : new ≡ span_of (λ i. get_or places i 0) (items_of nets k)) where
  pub right_here : IsRight nets places (set spans k new) k
  right_here = get_or-set_same spans k new no_span inside ∙ value

  pub right_there : (other : List ℕ) (m : ℕ) → m ≢ k → IsRight nets other spans m → IsRight nets other (set spans k new) m
  right_there other m apart right = get_or-set_other spans k m new no_span apart ∙ right

  -- each net is right for the places before or for those afterwards, and stays so
  pub either_more : (before : List ℕ) → ((m : ℕ) → m < net_count nets → IsRight nets before spans m ⊎ IsRight nets places spans m)
      → (m : ℕ) → m < net_count nets → IsRight nets before (set spans k new) m ⊎ IsRight nets places (set spans k new) m
  either_more before either m low = elim (cases_eq m k) [
    | inl e ↦ inr (subst (λ n. IsRight nets places (set spans k new) n) (sym e) right_here)
    | inr apart ↦ elim (either m low) [
      | inl right ↦ inl (right_there before m apart right)
      | inr right ↦ inr (right_there places m apart right)
    ]
  ]

  pub visited_more : (touching : List ℕ) (count : ℕ) → get_or touching count 0 ≡ k → ((n : ℕ) → n < count → IsRight nets places spans (get_or touching n 0))
      → (n : ℕ) → n < count + 1 → IsRight nets places (set spans k new) (get_or touching n 0)
  visited_more touching count here visited n low = elim (cases_eq (get_or touching n 0) k) [
    | inl e ↦ subst (λ m. IsRight nets places (set spans k new) m) (sym e) right_here
    | inr apart ↦ right_there places (get_or touching n 0) apart (visited n (let ne : n ≢ count = λ e. apart (ap (λ m. get_or touching m 0) e ∙ here) in omega arith))
  ]

-- a net of an item that moved has its span again
pub turn_right : (nets : Nets) (before places : List ℕ) (spans : List Span) (item k from to : ℕ) (new : Span) → k < net_count nets → Contains (items_of nets k) item
    → HasMoved nets before places item from to → IsRight nets before spans k ⊎ IsRight nets places spans k
    → IsStretched (get_or spans k no_span) from to new ⊎ (new ≡ span_of (λ i. get_or places i 0) (items_of nets k)) → new ≡ span_of (λ i. get_or places i 0) (items_of nets k)
turn_right nets before places spans item k from to new ik among moved either (inr anew) = anew
turn_right nets before places spans item k from to new ik among moved either (inl stretched) =
    let there : get_or places item 0 ≡ to = ap (λ ps. get_or ps item 0) moved.now ∙ get_or-set_same before item to 0 moved.inside in
    let others : (x : ℕ) → x ≢ item → get_or places x 0 ≡ get_or before x 0 = λ x n. ap (λ ps. get_or ps x 0) moved.now ∙ get_or-set_other before item x to 0 n in
    stretched_right (λ i. get_or before i 0) (λ i. get_or places i 0) (items_of nets k) item to (get_or spans k no_span) new among there others either
    (subst (λ f. IsStretched (get_or spans k no_span) f to new) (sym moved.start) stretched)

-- where the nets of the item are right, all are
pub all_right : (nets : Nets) (before places : List ℕ) (spans : List Span) (item to : ℕ) → IsNets nets → item < item_count nets → places ≡ set before item to
    → ((m : ℕ) → m < net_count nets → IsRight nets before spans m ⊎ IsRight nets places spans m)
    → ((n : ℕ) → n < length (nets_of nets item) → IsRight nets places spans (get_or (nets_of nets item) n 0))
    → (m : ℕ) → m < net_count nets → IsRight nets places spans m
all_right nets before places spans item to good ii moved either visited m low = elim (cases_contains (nets_of nets item) m) [
  | inl among ↦ at_each nets places spans (nets_of nets item) visited m among
  | inr without ↦ elim (either m low) [
    | inr right ↦ right
    | inl right ↦ right ∙ sym (span_same (λ i. get_or places i 0) (λ i. get_or before i 0) (items_of nets m)
        (λ x among. ap (λ ps. get_or ps x 0) moved ∙ get_or-set_other before item x to 0 (λ e. without ((good.complete item m ii low).0 (subst (λ y. Contains (items_of nets m) y) e among)))))
  ]
]

-- ---- sums of widths

pub old_low : (spans : List Span) (k : ℕ) (old : Span) → k < length spans → old ≡ get_or spans k no_span → width old ≤ sum_by width spans
old_low spans k old inside read = omega (arith, ap width read, get_or-le-sum_by width spans k no_span inside)

pub total_more : (spans : List Span) (k total : ℕ) (old new : Span) → k < length spans → old ≡ get_or spans k no_span → total ≡ sum_by width spans → (total - width old) + width new ≡ sum_by width (set spans k new)
total_more spans k total old new inside read summed =
    let e = sum_by-set width spans k new no_span inside in
    let low = get_or-le-sum_by width spans k no_span inside in
    let same = ap width read in
    omega arith

pub sum_low : (spans : List Span) → All (λ (span : Span). span.high ≤ 31) spans → length spans ≤ 2 ^ 16 → sum_by width spans ≤ 31 * 2 ^ 16
sum_low spans low few =
    let most = sum_by-le width 31 spans (λ k d inside. let h = low k d inside in omega arith) in
    omega (arith, most)

-- ---- an item that was put elsewhere

pub moved_shaped : (nets : Nets) (before places : List ℕ) (spans : List Span) (item from to total : ℕ) → HasMoved nets before places item from to → to ≤ 31 → IsShaped nets before spans total → IsShaped nets places spans total
moved_shaped nets before places spans item from to total moved near h = record {
  places_count = ap length moved.now ∙ length-set before item to ∙ h.places_count;
  spans_count = h.spans_count;
  summed = h.summed;
  near = subst (λ (ps : List ℕ). All (λ place. place ≤ 31) ps) (sym moved.now) (All-set (λ place. place ≤ 31) before item to near h.near);
  low = h.low;
}

-- nothing changes where an item is put where it was
pub unmoved : (nets : Nets) (before places : List ℕ) (item from to : ℕ) → HasMoved nets before places item from to → from ≡ to → before ≡ places
unmoved nets before places item from to moved same = sym (moved.now ∙ ap (λ v. set before item v) (sym (moved.start ∙ same)) ∙ set-get_or before item 0)

pub changed_more : (nets : Nets) (changed : List (ℕ × Span)) (net : ℕ) (old : Span) → AreNoted nets changed → net < net_count nets → AreNoted nets (changed ++ (net, old) ∷ [])
changed_more nets changed net old noted inside = All-push (λ (entry : ℕ × Span). entry.0 < net_count nets) changed (net, old) noted inside

pub shaped_more : (nets : Nets) (places : List ℕ) (spans : List Span) (total k now : ℕ) (new : Span) → IsShaped nets places spans total → new.high ≤ 31 → now ≡ sum_by width (set spans k new) → IsShaped nets places (set spans k new) now
shaped_more nets places spans total k now new h low summed = record {
  places_count = h.places_count;
  spans_count = length-set spans k new ∙ h.spans_count;
  summed = summed;
  near = h.near;
  low = All-set (λ (span : Span). span.high ≤ 31) spans k new low h.low;
}

-- one more net of an item is measured again
pub renewed_more : (nets : Nets) (before places : List ℕ) (spans : List Span) (touching : List ℕ) (count item from to : ℕ) (new : Span) → IsNets nets → length spans ≡ net_count nets
    → HasMoved nets before places item from to → count < length touching → All (λ net. net < net_count nets) touching
    → ((net : ℕ) → Contains touching net → Contains (items_of nets net) item)
    → IsStretched (get_or spans (get_or touching count 0) no_span) from to new ⊎ (new ≡ span_of (λ i. get_or places i 0) (items_of nets (get_or touching count 0)))
    → AreRenewed nets before places spans touching count → AreRenewed nets before places (set spans (get_or touching count 0) new) touching (count + 1)
renewed_more nets before places spans touching count item from to new good lengths moved inside low holds next h =
    let k = get_or touching count 0 in
    let kn : get_or touching count 0 < net_count nets = low count 0 inside in
    let ks : get_or touching count 0 < length spans = omega arith in
    let value = turn_right nets before places spans item k from to new kn (holds k (Contains-get_or touching count 0 inside)) moved (h.either k kn) next in
    record {
      either = either_more nets places spans k new ks value before h.either;
      visited = visited_more nets places spans k new ks value touching count refl h.visited;
    }

pub renewed_none : (nets : Nets) (before places : List ℕ) (spans : List Span) (touching : List ℕ) → ((net : ℕ) → net < net_count nets → IsRight nets before spans net) → AreRenewed nets before places spans touching 0
renewed_none nets before places spans touching right = record {
  either = λ net low. inl (right net low);
  visited = λ n low. absurd (omega (arith, low));
}

-- the nets of an item that moved are measured again, and so all are right
pub renewed_all : (nets : Nets) (before places : List ℕ) (spans : List Span) (touching : List ℕ) (item from to total : ℕ) → IsNets nets → item < item_count nets → touching ≡ nets_of nets item → HasMoved nets before places item from to
    → IsShaped nets places spans total → AreRenewed nets before places spans touching (length touching) → IsMeasured nets places spans total
renewed_all nets before places spans touching item from to total good ii same moved shaped h = record {
  shaped = shaped;
  right = all_right nets before places spans item to good ii moved.now h.either (subst (λ t. (n : ℕ) → n < length t → IsRight nets places spans (get_or t n 0)) same h.visited);
}

-- ---- spans that are measured one after the other

pub right_more : (nets : Nets) (places : List ℕ) (spans : List Span) (span : Span) (count : ℕ) → length spans ≡ count → span ≡ span_of (λ i. get_or places i 0) (items_of nets count)
    → ((net : ℕ) → net < count → IsRight nets places spans net) → (net : ℕ) → net < count + 1 → IsRight nets places (spans ++ span ∷ []) net
right_more nets places spans span count same value right net low = elim (cases_eq net count) [
  | inl e ↦ subst (λ n. IsRight nets places (spans ++ span ∷ []) n) (sym e) (get_or_push spans span no_span count same ∙ value)
  | inr n ↦ let under : net < count = omega arith in get_or_append_left spans (span ∷ []) no_span net (omega arith) ∙ right net under
]

-- what holds of all but the last
pub noted_front : (count : ℕ) (changed : List (ℕ × Span)) (entry : ℕ × Span) → All (λ (e : ℕ × Span). e.0 < count) (changed ++ entry ∷ []) → All (λ (e : ℕ × Span). e.0 < count) changed
noted_front count changed entry all k d low =
    subst (λ (e : ℕ × Span). e.0 < count) (get_or_append_left changed (entry ∷ []) d k low) (all k d (omega (arith, low, length_push changed entry)))
