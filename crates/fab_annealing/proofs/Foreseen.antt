-- What the spans of nets tell of an exchange before it is made: the cost afterwards is at least what they forecast.
use Rattle.std.proofs.Common.{◌≡◌, ◌≢◌, ◌⊎◌, ℕ, ◌+◌, ◌-◌, ◌*◌, ◌<◌, ◌≤◌, ◌^◌, max, min, List, [], ◌∷◌, length, get_or, set, suc, sum_by, Vec, Global, refl, sym, ◌∙◌, ap, subst, inl, inr, arith, length-set, get_or-set_same, get_or-set_other}
use Rattle.std.proofs.lemmas.Bool.{cases_eq}
use Rattle.std.proofs.lemmas.Grind.{get_or_default_zero}
use Rattle.std.proofs.lemmas.List.Elements.{All-contains, Contains-get_or}
use Rattle.std.proofs.lemmas.List.Sums.{sum_by-set, sum_by-cons}
use Rattle.std.specs.List.{All, Contains, slice_get}
use Rattle.fab_annealing.specs.declared.axis.Span.{Span}
use Rattle.fab_annealing.specs.declared.nets.Nets.{Nets}
use Rattle.fab_annealing.specs.declared.ties.Change.{Change}
use Rattle.fab_annealing.specs.Spans.{least, greatest, spread, span_of}
use Rattle.fab_annealing.specs.Measured.{IsNets, numbers_of, items_of, nets_of, net_count, item_count, no_span, width, widths}
use Rattle.fab_annealing.specs.inner.Tied.{AreDistinct, HasOther, IsAlone, AreTies, IsLeast, IsLeastWidth, IsForecast}
use Rattle.fab_annealing.proofs.Extremes.{least_below, least_reached, greatest_above, greatest_reached, span_same}
use Rattle.fab_annealing.proofs.Kept.{cases_contains}
use Rattle.fab_annealing.proofs.Exchanging.{sum_right}

-- ---- widths that are summed net by net

-- what is known behind so many of some nets: `rest` has the spans that are still to come, and `least` those that are as narrow as may be
pub record IsSoFar (spans : List Span) (nets : List ℕ) (from to : ℕ) (change : Change) (count : ℕ) : Type 0 where
  pub rest : List Span
  pub least : List Span
  pub rest_count : length rest ≡ length spans
  pub least_count : length least ≡ length spans
  pub spent : change.before + sum_by width rest ≡ sum_by width spans
  pub sums : change.after + sum_by width spans ≤ change.before + sum_by width least
  pub rest_left : (place : ℕ) → count ≤ place → place < length nets → get_or rest (get_or nets place 0) no_span ≡ get_or spans (get_or nets place 0) no_span
  pub least_left : (place : ℕ) → count ≤ place → place < length nets → get_or least (get_or nets place 0) no_span ≡ get_or spans (get_or nets place 0) no_span
  pub visited : (place : ℕ) → place < count → IsLeast (get_or spans (get_or nets place 0) no_span) from to (get_or least (get_or nets place 0) no_span)
  pub others : (net : ℕ) → (Contains nets net → ⊥) → get_or least net no_span ≡ get_or spans net no_span

pub none_so_far : (spans : List Span) (nets : List ℕ) (from to : ℕ) (change : Change) → change.before ≡ 0 → change.after ≡ 0
    → IsSoFar spans nets from to change 0
none_so_far spans nets from to change before after = record {
  rest = spans;
  least = spans;
  rest_count = refl;
  least_count = refl;
  spent = omega (arith, before);
  sums = omega (arith, before, after);
  rest_left = λ place past low. refl;
  least_left = λ place past low. refl;
  visited = λ place low. absurd (omega (arith, low));
  others = λ net without. refl;
}

module _ (spans : List Span) (nets : List ℕ) (from to count wide : ℕ) (change next : Change)
    (distinct : AreDistinct nets) (inside : All (λ net. net < length spans) nets) (low : count < length nets) (few : sum_by width spans ≤ 31 * 2 ^ 16)
    (least_wide : IsLeastWidth (get_or spans (get_or nets count 0) no_span) from to wide)
    (before : next.before ≡ min (change.before + width (get_or spans (get_or nets count 0) no_span)) (2 ^ 32 - 1))
    (after : next.after ≡ min (change.after + wide) (2 ^ 32 - 1))
    (h : IsSoFar spans nets from to change count) where
  pub so_far_more : IsSoFar spans nets from to next (count + 1)
  so_far_more =
      let k = get_or nets count 0 in
      let new = least_wide.0 in
      let there : get_or nets count 0 < length spans = inside count 0 low in
      let in_rest : get_or nets count 0 < length h.rest = omega (arith, there, h.rest_count) in
      let in_least : get_or nets count 0 < length h.least = omega (arith, there, h.least_count) in
      let spent = sum_by-set width h.rest k no_span no_span in_rest in
      let moved = sum_by-set width h.least k new no_span in_least in
      let rest_here = ap width (h.rest_left count (let q : count ≤ count = omega arith in q) low) in
      let least_here = ap width (h.least_left count (let q : count ≤ count = omega arith in q) low) in
      let exact : next.before ≡ change.before + width (get_or spans (get_or nets count 0) no_span) = omega (arith, before, h.spent, spent, rest_here, few) in
      let apart : (place : ℕ) → place < length nets → place ≢ count
      → get_or nets place 0 ≢ get_or nets count 0 = λ place inside_place other e. other (distinct place count inside_place low e) in
      record {
        rest = set h.rest k no_span;
        least = set h.least k new;
        rest_count = length-set h.rest k no_span ∙ h.rest_count;
        least_count = length-set h.least k new ∙ h.least_count;
        spent = omega (arith, exact, h.spent, spent, rest_here);
        sums = omega (arith, exact, after, h.sums, moved, least_here, least_wide.2);
        rest_left = λ place past inside_place. get_or-set_other h.rest k (get_or nets place 0) no_span no_span
            (apart place inside_place (let q : place ≢ count = omega arith in q)) ∙ h.rest_left place (let q : count ≤ place = omega arith in q) inside_place;
        least_left = λ place past inside_place. get_or-set_other h.least k (get_or nets place 0) new no_span
            (apart place inside_place (let q : place ≢ count = omega arith in q)) ∙ h.least_left place (let q : count ≤ place = omega arith in q) inside_place;
        visited = λ place under. elim (cases_eq place count) [
          | inl e ↦ subst (λ p. IsLeast (get_or spans (get_or nets p 0) no_span) from to (get_or (set h.least k new) (get_or nets p 0) no_span)) (sym e)
              (subst (λ s. IsLeast (get_or spans k no_span) from to s) (sym (get_or-set_same h.least k new no_span in_least)) least_wide.1)
          | inr other ↦ subst (λ s. IsLeast (get_or spans (get_or nets place 0) no_span) from to s)
              (sym (get_or-set_other h.least k (get_or nets place 0) new no_span (apart place (omega (arith, under, low)) other)))
              (h.visited place (omega (arith, under, other)))
        ];
        others = λ net without. get_or-set_other h.least k net new no_span
            (λ e. without (subst (λ n. Contains nets n) (sym e) (Contains-get_or nets count 0 low))) ∙ h.others net without;
      }

-- behind all nets
pub all_so_far : (spans : List Span) (nets : List ℕ) (from to : ℕ) (change : Change) → from ≢ to → IsSoFar spans nets from to change (length nets)
    → IsForecast spans nets from to change
all_so_far spans nets from to change moves h = record {
  least = h.least;
  count = h.least_count;
  moved = λ _ net among. subst (λ n. IsLeast (get_or spans n no_span) from to (get_or h.least n no_span))
      (sym (get_or_default_zero nets among.0 net among.1) ∙ among.2) (h.visited among.0 among.1);
  others = h.others;
  still = λ e. absurd (moves e);
  before = omega (arith, h.spent);
  sums = h.sums;
}

pub nothing_moves : (spans : List Span) (nets : List ℕ) (from to : ℕ) (change : Change) → from ≡ to → change.before ≡ 0 → change.after ≡ 0
    → IsForecast spans nets from to change
nothing_moves spans nets from to change same before after = record {
  least = spans;
  count = refl;
  moved = λ moves net among. absurd (moves same);
  others = λ net without. refl;
  still = λ e. refl;
  before = omega (arith, before);
  sums = omega (arith, before, after);
}

pub no_nets : (spans : List Span) (from to : ℕ) (change : Change) → change.before ≡ 0 → change.after ≡ 0 → IsForecast spans [] from to change
no_nets spans from to change before after = record {
  least = spans;
  count = refl;
  moved = λ moves net among. absurd (omega (arith, among.1));
  others = λ net without. refl;
  still = λ e. refl;
  before = omega (arith, before);
  sums = omega (arith, before, after);
}

-- ---- one net

-- a place that changes beside another one leaves at least the narrowest span
pub least_kept : (place after : ℕ → ℕ) (items : List ℕ) (item other to : ℕ) (old new : Span) → Contains items item → Contains items other → other ≢ item
    → after item ≡ to → ((x : ℕ) → Contains items x → x ≢ item → after x ≡ place x)
    → old ≡ span_of place items → IsLeast old (place item) to new → width new ≤ spread after items
least_kept place after items item other to old new among beside apart there others is h =
    let low : old.low ≡ least place items = ap (λ (s : Span). s.low) is in
    let high : old.high ≡ greatest place items = ap (λ (s : Span). s.high) is in
    let to_low = least_below after items item among in
    let to_high = greatest_above after items item among in
    let stays = others other beside apart in
    let other_low = least_below after items other beside in
    let other_high = greatest_above after items other beside in
    let lower : least after items ≤ new.low = elim h.low [
      | inl e ↦ omega (arith, e, there, to_low, other_low, stays, greatest_above place items other beside, high)
      | inr kept ↦
          let r = least_reached place items item among in
          let elsewhere : r.0 ≢ item = λ e. kept.0 (ap place (sym e) ∙ r.2 ∙ sym low) in
          omega (arith, kept.1, there, to_low, least_below after items r.0 r.1, others r.0 r.1 elsewhere, r.2, low)
    ] in
    let higher : new.high ≤ greatest after items = elim h.high [
      | inl e ↦ omega (arith, e, there, to_high, other_high, stays, least_below place items other beside, low)
      | inr kept ↦
          let r = greatest_reached place items item among in
          let elsewhere : r.0 ≢ item = λ e. kept.0 (ap place (sym e) ∙ r.2 ∙ sym high) in
          omega (arith, kept.1, there, to_high, greatest_above after items r.0 r.1, others r.0 r.1 elsewhere, r.2, high)
    ] in
    omega (arith, lower, higher)

-- a place that changes within the span leaves at the least one that is no wider
pub least_within : (old new : Span) (from to : ℕ) → old.low ≤ to → to ≤ old.high → IsLeast old from to new → width new ≤ width old
least_within old new from to above below h =
    let low : old.low ≤ new.low = elim h.low [
      | inl e ↦ omega (arith, e, above, below)
      | inr kept ↦ omega (arith, kept.1, above)
    ] in
    let high : new.high ≤ old.high = elim h.high [
      | inl e ↦ omega (arith, e, above, below)
      | inr kept ↦ omega (arith, kept.1, below)
    ] in
    omega (arith, low, high)

-- two items of a net that change places leave its span as wide
pub spread_swapped : (place after : ℕ → ℕ) (items : List ℕ) (a b : ℕ) → Contains items a → Contains items b → after a ≡ place b → after b ≡ place a
    → ((x : ℕ) → Contains items x → x ≢ a → x ≢ b → after x ≡ place x)
    → spread place items ≤ spread after items
spread_swapped place after items a b among_a among_b to_a to_b others =
    let kept : (y : ℕ) → Contains items y → (z : ℕ) × Contains items z × (after z ≡ place y) = λ y among. elim (cases_eq y a) [
      | inl e ↦ (b, among_b, to_b ∙ ap place (sym e))
      | inr n ↦ elim (cases_eq y b) [
        | inl e ↦ (a, among_a, to_a ∙ ap place (sym e))
        | inr m ↦ (y, among, others y among n m)
      ]
    ] in
    let l = least_reached place items a among_a in
    let g = greatest_reached place items a among_a in
    let low = kept l.0 l.1 in
    let high = kept g.0 g.1 in
    omega (arith, least_below after items low.0 low.1, low.2, l.2, greatest_above after items high.0 high.1, high.2, g.2)

-- the span of a net of one item is nothing
pub alone_narrow : (place : ℕ → ℕ) (items : List ℕ) (item : ℕ) (old : Span) → Contains items item → All (λ x. x ≡ item) items → old ≡ span_of place items
    → width old ≡ 0
alone_narrow place items item old among alone is =
    let l = least_reached place items item among in
    let g = greatest_reached place items item among in
    let low = ap place (All-contains (λ x. x ≡ item) items l.0 alone l.1) in
    let high = ap place (All-contains (λ x. x ≡ item) items g.0 alone g.1) in
    omega (arith, ap (λ (s : Span). s.low) is, ap (λ (s : Span). s.high) is, l.2, g.2, low, high)

-- ---- two items that change places

-- the ties of an item in the terms of its nets' items
pub record IsTied (nets : Nets) (item : ℕ) (ties : List ℕ) : Type 0 where
  pub among : (net : ℕ) → Contains ties net → Contains (items_of nets net) item
  pub others : (net : ℕ) → Contains ties net → HasOther nets item net
  pub whole : (net : ℕ) → net < net_count nets → Contains (items_of nets net) item → Contains ties net ⊎ IsAlone nets item net

pub tied_by : (nets : Nets) (item : ℕ) (ties : List ℕ) → IsNets nets → item < item_count nets → AreTies nets item ties → IsTied nets item ties
tied_by nets item ties good inside h = record {
  among = λ net tie.
      let touches = All-contains (λ n. Contains (nets_of nets item) n) ties net h.touching tie in
      (good.complete item net inside (All-contains (λ n. n < net_count nets) (nets_of nets item) net (good.touched item inside) touches)).1 touches;
  others = λ net tie. All-contains (λ n. HasOther nets item n) ties net h.others tie;
  whole = λ net low among. All-contains (λ n. Contains ties n ⊎ IsAlone nets item n) (nets_of nets item) net h.whole
      ((good.complete item net inside low).0 among);
}

-- what is no item has no ties
pub tied_none : (nets : Nets) → IsNets nets → IsTied nets (item_count nets) []
tied_none nets good = record {
  among = λ net tie. absurd (omega (arith, tie.1));
  others = λ net tie. absurd (omega (arith, tie.1));
  whole = λ net low among.
      let inside = All-contains (λ item. item < item_count nets) (items_of nets net) (item_count nets) (good.inside net low) among in
      absurd (omega (arith, inside));
}

module _ (nets : Nets) (place after : ℕ → ℕ) (a b from to : ℕ) (first second : List ℕ) (good : IsNets nets) (apart : a ≢ b) (a_from : place a ≡ from)
    (a_to : after a ≡ to)
    (b_moves : (net : ℕ) → net < net_count nets → Contains (items_of nets net) b → (place b ≡ to) × (after b ≡ from))
    (others : (x : ℕ) → x < item_count nets → x ≢ a → x ≢ b → after x ≡ place x) (tied_a : IsTied nets a first) (tied_b : IsTied nets b second) where
  other_at : (net : ℕ) → net < net_count nets → (x : ℕ) → Contains (items_of nets net) x → x ≢ a → x ≢ b → after x ≡ place x
  other_at net low x among n m = others x (All-contains (λ item. item < item_count nets) (items_of nets net) x (good.inside net low) among) n m

  -- a net of both
  both_kept : (net : ℕ) → net < net_count nets → (old here there : Span) → old ≡ span_of place (items_of nets net) → Contains first net → Contains second net
      → IsLeast old from to here → IsLeast old to from there
      → width here + width there ≤ width old + spread after (items_of nets net)
  both_kept net low old here there is f s h t =
      let items = items_of nets net in
      let a_in = tied_a.among net f in
      let b_in = tied_b.among net s in
      let moves = b_moves net low b_in in
      let low_is = ap (λ (s : Span). s.low) is in
      let high_is = ap (λ (s : Span). s.high) is in
      let swapped = spread_swapped place after items a b a_in b_in (a_to ∙ sym moves.0) (moves.1 ∙ sym a_from) (other_at net low) in
      let one = least_within old here from to (omega (arith, low_is, least_below place items b b_in, moves.0))
      (omega (arith, high_is, greatest_above place items b b_in, moves.0)) h in
      let two = least_within old there to from (omega (arith, low_is, least_below place items a a_in, a_from))
      (omega (arith, high_is, greatest_above place items a a_in, a_from)) t in
      omega (arith, swapped, one, two, low_is, high_is)

  -- a net of the first alone
  first_kept : (net : ℕ) → net < net_count nets → (old here : Span) → old ≡ span_of place (items_of nets net) → Contains first net → (Contains second net → ⊥)
      → IsLeast old from to here
      → width here ≤ spread after (items_of nets net)
  first_kept net low old here is f ns h =
      let items = items_of nets net in
      let a_in = tied_a.among net f in
      let other = tied_a.others net f in
      let without : (x : ℕ) → Contains items x → x ≢ b = λ x among e. elim (tied_b.whole net low (subst (λ y. Contains items y) e among)) [
        | inl s ↦ ns s
        | inr alone ↦ apart (All-contains (λ y. y ≡ b) items a alone a_in)
      ] in
      least_kept place after items a other.0 to old here a_in other.2 other.1 a_to (λ x among n. other_at net low x among n (without x among)) is
      (subst (λ s. IsLeast old s to here) (sym a_from) h)

  -- a net of the second alone
  second_kept : (net : ℕ) → net < net_count nets → (old there : Span) → old ≡ span_of place (items_of nets net) → Contains second net → (Contains first net → ⊥)
      → IsLeast old to from there
      → width there ≤ spread after (items_of nets net)
  second_kept net low old there is s nf h =
      let items = items_of nets net in
      let b_in = tied_b.among net s in
      let moves = b_moves net low b_in in
      let other = tied_b.others net s in
      let without : (x : ℕ) → Contains items x → x ≢ a = λ x among e. elim (tied_a.whole net low (subst (λ y. Contains items y) e among)) [
        | inl f ↦ nf f
        | inr alone ↦ apart (sym (All-contains (λ y. y ≡ a) items b alone b_in))
      ] in
      least_kept place after items b other.0 from old there b_in other.2 other.1 moves.1 (λ x among m. other_at net low x among (without x among) m) is
      (subst (λ s. IsLeast old s from there) (sym moves.0) h)

  -- a net of neither, or of one item alone
  none_kept : (net : ℕ) → net < net_count nets → (old : Span) → old ≡ span_of place (items_of nets net) → (Contains first net → ⊥) → (Contains second net → ⊥)
      → width old ≤ spread after (items_of nets net)
  none_kept net low old is nf ns =
      let items = items_of nets net in
      elim (cases_contains items a) [
        | inl a_in ↦ elim (tied_a.whole net low a_in) [
          | inl f ↦ absurd (nf f)
          | inr alone ↦ omega (arith, alone_narrow place items a old a_in alone is)
        ]
        | inr na ↦ elim (cases_contains items b) [
          | inl b_in ↦ elim (tied_b.whole net low b_in) [
            | inl s ↦ absurd (ns s)
            | inr alone ↦ omega (arith, alone_narrow place items b old b_in alone is)
          ]
          | inr nb ↦
              let stays : (x : ℕ) → Contains items x → after x ≡ place x = λ x among.
              other_at net low x among (λ e. na (subst (λ y. Contains items y) e among)) (λ e. nb (subst (λ y. Contains items y) e among)) in
              let same = is ∙ sym (span_same after place items stays) in
              omega (arith, ap (λ (s : Span). s.low) same, ap (λ (s : Span). s.high) same)
        ]
      ]

  net_kept : (net : ℕ) → net < net_count nets → (old here there : Span) → old ≡ span_of place (items_of nets net)
      → (Contains first net → IsLeast old from to here) → ((Contains first net → ⊥) → here ≡ old)
      → (Contains second net → IsLeast old to from there) → ((Contains second net → ⊥) → there ≡ old)
      → width here + width there ≤ width old + spread after (items_of nets net)
  net_kept net low old here there is f nf s ns = elim (cases_contains first net) [
    | inl in_first ↦ elim (cases_contains second net) [
      | inl in_second ↦ both_kept net low old here there is in_first in_second (f in_first) (s in_second)
      | inr not_second ↦ omega (arith, first_kept net low old here is in_first not_second (f in_first), ap width (ns not_second))
    ]
    | inr not_first ↦ elim (cases_contains second net) [
      | inl in_second ↦ omega (arith, second_kept net low old there is in_second not_first (s in_second), ap width (nf not_first))
      | inr not_second ↦ omega (arith, none_kept net low old is not_first not_second, ap width (nf not_first), ap width (ns not_second))
    ]
  ]

-- ---- all nets

sums_kept : (nets : List (Vec ℕ Global)) (spans first second : List Span) (after : ℕ → ℕ) → length spans ≡ length nets → length first ≡ length nets
    → length second ≡ length nets
    → ((k : ℕ) → k < length nets
    → width (get_or first k no_span) + width (get_or second k no_span) ≤ width (get_or spans k no_span) + spread after (numbers_of (slice_get nets k)))
    → sum_by width first + sum_by width second ≤ sum_by width spans + sum_by (λ (net : Vec ℕ Global). spread after net.items) nets
sums_kept [] [] [] [] after e f g h = omega arith
sums_kept (net ∷ nets) (span ∷ spans) (one ∷ first) (two ∷ second) after e f g h =
    let here : width one + width two ≤ width span + spread after net.items = h 0 (omega arith) in
    let others = sums_kept nets spans first second after (omega arith) (omega arith) (omega arith) (λ k l. h (suc k) (omega arith)) in
    omega (
      arith,
      here,
      others,
      sum_by-cons width one first,
      sum_by-cons width two second,
      sum_by-cons width span spans,
      sum_by-cons (λ (n : Vec ℕ Global). spread after n.items) net nets,
    )
sums_kept nets spans first second after e f g h = absurd (omega (arith, e, f, g))

-- the cost in one direction, where two items change places and it is at least what is forecast of both
module _ (nets : Nets) (spans : List Span) (place after : ℕ → ℕ) (a b from to : ℕ) (first second : List ℕ) (here there : Change) (good : IsNets nets)
    (right : (net : ℕ) → net < net_count nets → get_or spans net no_span ≡ span_of place (items_of nets net)) (spans_count : length spans ≡ net_count nets)
    (apart : from ≢ to → a ≢ b) (a_from : place a ≡ from) (a_to : after a ≡ to)
    (b_moves : (net : ℕ) → net < net_count nets → Contains (items_of nets net) b → (place b ≡ to) × (after b ≡ from))
    (others : (x : ℕ) → x < item_count nets → x ≢ a → x ≢ b → after x ≡ place x) (still : from ≡ to → (x : ℕ) → x < item_count nets → after x ≡ place x)
    (tied_a : IsTied nets a first) (tied_b : IsTied nets b second) (forecast_a : IsForecast spans first from to here)
    (forecast_b : IsForecast spans second to from there) where
  pub foreseen_axis : sum_by width spans + (here.after + there.after) ≤ (here.before + there.before) + widths nets after
  foreseen_axis = elim (cases_eq from to) [
    | inl e ↦
        let same = sum_right nets.items.items spans after spans_count
        (λ k l. right k l ∙ sym (span_same after place (items_of nets k)
        (λ x among. still e x (All-contains (λ item. item < item_count nets) (items_of nets k) x (good.inside k l) among)))) in
        omega (arith, same, forecast_a.sums, forecast_b.sums, ap (sum_by width) (forecast_a.still e), ap (sum_by width) (forecast_b.still (sym e)))
    | inr n ↦
        let kept = sums_kept nets.items.items spans forecast_a.least forecast_b.least after spans_count (forecast_a.count ∙ spans_count)
        (forecast_b.count ∙ spans_count) (λ k l.
        net_kept nets place after a b from to first second good (apart n) a_from a_to b_moves others tied_a tied_b k l (get_or spans k no_span)
        (get_or forecast_a.least k no_span) (get_or forecast_b.least k no_span) (right k l)
        (forecast_a.moved n k) (forecast_a.others k) (forecast_b.moved (λ e. n (sym e)) k) (forecast_b.others k)) in
        omega (arith, kept, forecast_a.sums, forecast_b.sums)
  ]

-- how far a place lies from the ends that stay is as wide as the span that is left
pub least_reaches : (old : Span) (from to low high wide : ℕ) → (low ≡ old.high) ⊎ ((from ≢ old.low) × (low ≡ old.low))
    → (high ≡ old.low) ⊎ ((from ≢ old.high) × (high ≡ old.high)) → wide ≤ (to - low) + (high - to) → IsLeastWidth old from to wide
least_reaches old from to low high wide lower higher reach = (
  record { low = min low to; high = max high to },
  record {
    low = elim lower [
      | inl e ↦ inl (ap (λ n. min n to) e)
      | inr kept ↦ inr (kept.0, ap (λ n. min n to) kept.1)
    ];
    high = elim higher [
      | inl e ↦ inl (ap (λ n. max n to) e)
      | inr kept ↦ inr (kept.0, ap (λ n. max n to) kept.1)
    ];
  },
  omega (arith, reach),
)
