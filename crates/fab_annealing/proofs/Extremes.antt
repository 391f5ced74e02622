-- The least and the greatest place of some items, and what becomes of them where one item moves.
use Rattle.std.proofs.Common.{◌≡◌, ◌≢◌, ◌⊎◌, ℕ, ◌<◌, ◌≤◌, max, min, List, [], ◌∷◌, length, get_or, zero, suc, fold, refl, sym, ◌∙◌, ap, inl, inr, arith}
use Rattle.std.proofs.lemmas.Bool.{cases_eq}
use Rattle.std.specs.List.{Contains}
use Rattle.fab_annealing.specs.declared.axis.Span.{Span}
use Rattle.fab_annealing.specs.Spans.{least, greatest, span_of}
use Rattle.fab_annealing.specs.Measured.{IsStretched}

pub first_or_later : (y : ℕ) (ys : List ℕ) (x k : ℕ) → k < length (y ∷ ys) → get_or (y ∷ ys) k x ≡ x → (y ≡ x) ⊎ Contains ys x
first_or_later y ys x zero l e = inl e
first_or_later y ys x (suc k) l e = inr (k, omega arith, e)

contains_later : (y : ℕ) (ys : List ℕ) (x : ℕ) → Contains ys x → Contains (y ∷ ys) x
contains_later y ys x h = (suc h.0, omega (arith, h.1), h.2)

contains_first : (y : ℕ) (ys : List ℕ) → Contains (y ∷ ys) y
contains_first y ys = (0, omega arith, refl)

-- ---- a fold of `min` is below each place and is one of them

fold_min_start : (place : ℕ → ℕ) (a : ℕ) (items : List ℕ) → fold (λ low other. min low (place other)) a items ≤ a
fold_min_start place a [] = omega arith
fold_min_start place a (i ∷ items) = omega (arith, fold_min_start place (min a (place i)) items)

fold_min_below : (place : ℕ → ℕ) (a : ℕ) (items : List ℕ) (x : ℕ) → Contains items x → fold (λ low other. min low (place other)) a items ≤ place x
fold_min_below place a [] x h = absurd (omega (arith, h.1))
fold_min_below place a (i ∷ items) x h = elim (first_or_later i items x h.0 h.1 h.2) [
  | inl e ↦ omega (arith, fold_min_start place (min a (place i)) items, ap place e)
  | inr later ↦ fold_min_below place (min a (place i)) items x later
]

abbrev IsReached : (place : ℕ → ℕ) → (value a : ℕ) → (items : List ℕ) → Type 0
IsReached place value a items = (value ≡ a) ⊎ ((x : ℕ) × Contains items x × (place x ≡ value))

min_is : (a b : ℕ) → (min a b ≡ a) ⊎ (min a b ≡ b)
min_is a b = elim (cases_eq (min a b) a) [
  | inl e ↦ inl e
  | inr n ↦ inr (omega arith)
]

fold_min_reached : (place : ℕ → ℕ) (a : ℕ) (items : List ℕ) → IsReached place (fold (λ low other. min low (place other)) a items) a items
fold_min_reached place a [] = inl refl
fold_min_reached place a (i ∷ items) = elim (fold_min_reached place (min a (place i)) items) [
  | inl e ↦ elim (min_is a (place i)) [
    | inl f ↦ inl (e ∙ f)
    | inr f ↦ inr (i, contains_first i items, sym (e ∙ f))
  ]
  | inr h ↦ inr (h.0, contains_later i items h.0 h.1, h.2)
]

pub least_below : (place : ℕ → ℕ) (items : List ℕ) (x : ℕ) → Contains items x → least place items ≤ place x
least_below place [] x h = absurd (omega (arith, h.1))
least_below place (i ∷ items) x h = elim (first_or_later i items x h.0 h.1 h.2) [
  | inl e ↦ omega (arith, fold_min_start place (place i) items, ap place e)
  | inr later ↦ fold_min_below place (place i) items x later
]

pub least_reached : (place : ℕ → ℕ) (items : List ℕ) (x : ℕ) → Contains items x → (y : ℕ) × Contains items y × (place y ≡ least place items)
least_reached place [] x h = absurd (omega (arith, h.1))
least_reached place (i ∷ items) x h = elim (fold_min_reached place (place i) items) [
  | inl e ↦ (i, contains_first i items, sym e)
  | inr r ↦ (r.0, contains_later i items r.0 r.1, r.2)
]

pub least_is : (place : ℕ → ℕ) (items : List ℕ) (value : ℕ) → ((x : ℕ) → Contains items x → value ≤ place x) → (y : ℕ) → Contains items y → place y ≡ value → least place items ≡ value
least_is place items value below y among e =
    let r = least_reached place items y among in
    omega (arith, least_below place items y among, below r.0 r.1, r.2, e)

-- ---- the same of `max`

fold_max_start : (place : ℕ → ℕ) (a : ℕ) (items : List ℕ) → a ≤ fold (λ high other. max high (place other)) a items
fold_max_start place a [] = omega arith
fold_max_start place a (i ∷ items) = omega (arith, fold_max_start place (max a (place i)) items)

fold_max_above : (place : ℕ → ℕ) (a : ℕ) (items : List ℕ) (x : ℕ) → Contains items x → place x ≤ fold (λ high other. max high (place other)) a items
fold_max_above place a [] x h = absurd (omega (arith, h.1))
fold_max_above place a (i ∷ items) x h = elim (first_or_later i items x h.0 h.1 h.2) [
  | inl e ↦ omega (arith, fold_max_start place (max a (place i)) items, ap place e)
  | inr later ↦ fold_max_above place (max a (place i)) items x later
]

max_is : (a b : ℕ) → (max a b ≡ a) ⊎ (max a b ≡ b)
max_is a b = elim (cases_eq (max a b) a) [
  | inl e ↦ inl e
  | inr n ↦ inr (omega arith)
]

fold_max_reached : (place : ℕ → ℕ) (a : ℕ) (items : List ℕ) → IsReached place (fold (λ high other. max high (place other)) a items) a items
fold_max_reached place a [] = inl refl
fold_max_reached place a (i ∷ items) = elim (fold_max_reached place (max a (place i)) items) [
  | inl e ↦ elim (max_is a (place i)) [
    | inl f ↦ inl (e ∙ f)
    | inr f ↦ inr (i, contains_first i items, sym (e ∙ f))
  ]
  | inr h ↦ inr (h.0, contains_later i items h.0 h.1, h.2)
]

pub greatest_above : (place : ℕ → ℕ) (items : List ℕ) (x : ℕ) → Contains items x → place x ≤ greatest place items
greatest_above place [] x h = absurd (omega (arith, h.1))
greatest_above place (i ∷ items) x h = elim (first_or_later i items x h.0 h.1 h.2) [
  | inl e ↦ omega (arith, fold_max_start place (place i) items, ap place e)
  | inr later ↦ fold_max_above place (place i) items x later
]

pub greatest_reached : (place : ℕ → ℕ) (items : List ℕ) (x : ℕ) → Contains items x → (y : ℕ) × Contains items y × (place y ≡ greatest place items)
greatest_reached place [] x h = absurd (omega (arith, h.1))
greatest_reached place (i ∷ items) x h = elim (fold_max_reached place (place i) items) [
  | inl e ↦ (i, contains_first i items, sym e)
  | inr r ↦ (r.0, contains_later i items r.0 r.1, r.2)
]

pub greatest_is : (place : ℕ → ℕ) (items : List ℕ) (value : ℕ) → ((x : ℕ) → Contains items x → place x ≤ value) → (y : ℕ) → Contains items y → place y ≡ value → greatest place items ≡ value
greatest_is place items value above y among e =
    let r = greatest_reached place items y among in
    omega (arith, greatest_above place items y among, above r.0 r.1, r.2, e)

-- ---- places that agree at the items

pub least_same : (place other : ℕ → ℕ) (items : List ℕ) → ((x : ℕ) → Contains items x → place x ≡ other x) → least place items ≡ least other items
least_same place other [] same = refl
least_same place other (i ∷ items) same =
    let r = least_reached other (i ∷ items) i (contains_first i items) in
    least_is place (i ∷ items) (least other (i ∷ items)) (λ x among. omega (arith, least_below other (i ∷ items) x among, same x among)) r.0 r.1 (same r.0 r.1 ∙ r.2)

pub greatest_same : (place other : ℕ → ℕ) (items : List ℕ) → ((x : ℕ) → Contains items x → place x ≡ other x) → greatest place items ≡ greatest other items
greatest_same place other [] same = refl
greatest_same place other (i ∷ items) same =
    let r = greatest_reached other (i ∷ items) i (contains_first i items) in
    greatest_is place (i ∷ items) (greatest other (i ∷ items)) (λ x among. omega (arith, greatest_above other (i ∷ items) x among, same x among)) r.0 r.1 (same r.0 r.1 ∙ r.2)

abbrev span_from : (low high : ℕ) → Span
span_from low high = record { low = low; high = high }

pub same_span : (span : Span) (place : ℕ → ℕ) (items : List ℕ) → span.low ≡ least place items → span.high ≡ greatest place items → span ≡ span_of place items
same_span span place items low high = ap (λ (l : ℕ). span_from l span.high) low ∙ ap (λ (h : ℕ). span_from (least place items) h) high

pub span_same : (place other : ℕ → ℕ) (items : List ℕ) → ((x : ℕ) → Contains items x → place x ≡ other x) → span_of place items ≡ span_of other items
span_same place other items same = same_span (span_of place items) other items (least_same place other items same) (greatest_same place other items same)

-- ---- one item moves

pub least_stretched : (place after : ℕ → ℕ) (items : List ℕ) (item to : ℕ) → Contains items item → after item ≡ to → ((x : ℕ) → x ≢ item → after x ≡ place x)
    → (place item ≡ least place items → to ≤ least place items) → least after items ≡ min (least place items) to
least_stretched place after items item to among there others free =
    let below : (x : ℕ) → Contains items x → min (least place items) to ≤ after x = λ x h. elim (cases_eq x item) [
      | inl e ↦ omega (arith, ap after e, there)
      | inr n ↦ omega (arith, others x n, least_below place items x h)
    ] in
    let r = least_reached place items item among in
    elim (cases_eq (min (least place items) to) to) [
      | inl e ↦ least_is after items (min (least place items) to) below item among (there ∙ sym e)
      | inr n ↦ least_is after items (min (least place items) to) below r.0 r.1
          (others r.0 (λ e. n (omega (arith, free (ap place (sym e) ∙ r.2)))) ∙ r.2 ∙ (let q : least place items ≡ min (least place items) to = omega arith in q))
    ]

pub greatest_stretched : (place after : ℕ → ℕ) (items : List ℕ) (item to : ℕ) → Contains items item → after item ≡ to → ((x : ℕ) → x ≢ item → after x ≡ place x)
    → (place item ≡ greatest place items → greatest place items ≤ to) → greatest after items ≡ max (greatest place items) to
greatest_stretched place after items item to among there others free =
    let above : (x : ℕ) → Contains items x → after x ≤ max (greatest place items) to = λ x h. elim (cases_eq x item) [
      | inl e ↦ omega (arith, ap after e, there)
      | inr n ↦ omega (arith, others x n, greatest_above place items x h)
    ] in
    let r = greatest_reached place items item among in
    elim (cases_eq (max (greatest place items) to) to) [
      | inl e ↦ greatest_is after items (max (greatest place items) to) above item among (there ∙ sym e)
      | inr n ↦ greatest_is after items (max (greatest place items) to) above r.0 r.1
          (others r.0 (λ e. n (omega (arith, free (ap place (sym e) ∙ r.2)))) ∙ r.2 ∙ (let q : greatest place items ≡ max (greatest place items) to = omega arith in q))
    ]

-- the span of a net stretched to where its item came, from the span before or the span afterwards
pub stretched_right : (place after : ℕ → ℕ) (items : List ℕ) (item to : ℕ) (old new : Span) → Contains items item → after item ≡ to → ((x : ℕ) → x ≢ item → after x ≡ place x)
    → (old ≡ span_of place items) ⊎ (old ≡ span_of after items) → IsStretched old (place item) to new → new ≡ span_of after items
stretched_right place after items item to old new among there others (inl e) h =
    let low : old.low ≡ least place items = ap (λ (s : Span). s.low) e in
    let high : old.high ≡ greatest place items = ap (λ (s : Span). s.high) e in
    let a = least_stretched place after items item to among there others (λ f. omega (arith, h.low_stays (f ∙ sym low), low)) in
    let b = greatest_stretched place after items item to among there others (λ f. omega (arith, h.high_stays (f ∙ sym high), high)) in
    same_span new after items (omega (arith, h.low, a, low)) (omega (arith, h.high, b, high))
stretched_right place after items item to old new among there others (inr e) h =
    let low : old.low ≡ least after items = ap (λ (s : Span). s.low) e in
    let high : old.high ≡ greatest after items = ap (λ (s : Span). s.high) e in
    same_span new after items (omega (arith, h.low, low, least_below after items item among, there)) (omega (arith, h.high, high, greatest_above after items item among, there))
