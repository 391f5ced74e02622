-- How often covers that were split drive a net: an old one as before, a new one once, and no other.
use Rattle.std.proofs.Common.{◌≡◌, ℕ, zero, suc, ◌+◌, ◌<◌, ◌≤◌, false, List, [], ◌∷◌, ◌++◌, length, get_or, Contains, nat_eq, nat_lt, if◌then◌else◌, refl, ap, ◌∙◌, inl, inr, arith}
use Rattle.std.proofs.lemmas.Bool.{cases_Bool, cases_lt, ne_eqb, eq-eqb}
use Rattle.std.proofs.lemmas.List.{map-append}
use Rattle.fab_netlist.specs.Plain.{PlainCover}
use Rattle.fab_netlist.specs.WellMade.{times, cover_outputs}
use Rattle.fab_netlist.proofs.Counts.{times_joined}
use Rattle.fab_netlist.proofs.Members.{first_in, later_in}
use Rattle.fab_wide.specs.Split.{low_half, high_half, chooser, cover_with, taken, narrow, taken_by, parts, all_taken, all_parts}

one_at : (a b : ℕ) → a ≡ b → ◌≡◌ {A = ℕ} (if nat_eq a b then 1 else 0) 1
one_at a b same = rw (eq-eqb a b same) refl

none_at : (a b : ℕ) → (a ≡ b → ⊥) → ◌≡◌ {A = ℕ} (if nat_eq a b then 1 else 0) 0
none_at a b other = rw (ne_eqb a b other) refl

split_sum : (net : ℕ) (first second : List PlainCover) (last : PlainCover) →
    times net (cover_outputs (first ++ (second ++ last ∷ []))) ≡ times net (cover_outputs first) + (times net (cover_outputs second) +
    (if nat_eq last.output net then 1 else 0))
split_sum net first second last =
    ap (times net) (map-append (λ (c : PlainCover). c.output) first (second ++ last ∷ []))
    ∙ times_joined net (cover_outputs first) (cover_outputs (second ++ last ∷ []))
    ∙ ap (λ k. times net (cover_outputs first) + k) (ap (times net) (map-append (λ (c : PlainCover). c.output) second (last ∷ [])) ∙ times_joined net
    (cover_outputs second) (last.output ∷ []) ∙ omega arith)

-- an old net is driven where it is the output of the table, and only there
pub narrow_times : (line : ℕ) (inputs : List ℕ) (n table output fresh net : ℕ) → net < fresh →
    times net (cover_outputs (narrow line inputs n table output fresh)) ≡ (if nat_eq output net then 1 else 0)
narrow_times line inputs zero table output fresh net old = omega arith
narrow_times line inputs (suc n) table output fresh net old =
    let low : ℕ = low_half n table in
    let high : ℕ = high_half n table in
    elim (cases_Bool (nat_lt n 4)) [
      | inl small ↦ rw small (omega arith)
      | inr large ↦ elim (cases_Bool (nat_eq low high)) [
        | inl same ↦ rw (large, same) (narrow_times line inputs n low output fresh net old)
        | inr other ↦ (
            let first = narrow line inputs n low fresh (2 + fresh) in
            let second = narrow line inputs n high (1 + fresh) (taken n low + (2 + fresh)) in
            let choose = cover_with line (fresh ∷ (1 + fresh) ∷ get_or inputs n 0 ∷ []) output chooser in
            let as_both : narrow line inputs (suc n) table output fresh ≡ first ++ (second ++ choose ∷ []) = rw (large, other) refl in
            let a = narrow_times line inputs n low fresh (2 + fresh) net (omega (arith, old)) in
            let b = narrow_times line inputs n high (1 + fresh) (taken n low + (2 + fresh)) net (omega (arith, old)) in
            let not_a : nat_eq fresh net ≡ false = ne_eqb fresh net (λ e. omega (arith, e, old)) in
            let not_b : nat_eq (1 + fresh) net ≡ false = ne_eqb (1 + fresh) net (λ e. omega (arith, e, old)) in
            let a_none : times net (cover_outputs first) ≡ 0 = a ∙ rw not_a refl in
            let b_none : times net (cover_outputs second) ≡ 0 = b ∙ rw not_b refl in
            ap (λ cs. times net (cover_outputs cs)) as_both
            ∙ ap (times net) (map-append (λ (c : PlainCover). c.output) first (second ++ choose ∷ []))
            ∙ times_joined net (cover_outputs first) (cover_outputs (second ++ choose ∷ [])) ∙ omega (
              arith,
              a_none,
              b_none,
              ap (times net) (map-append (λ (c : PlainCover). c.output) second (choose ∷ [])),
              times_joined net (cover_outputs second) (output ∷ []),
            ))
      ]
    ]

module _ (line : ℕ) (inputs : List ℕ) where
  -- how often they drive a net
  abbrev count : (n table output fresh net : ℕ) → ℕ
  count n table output fresh net = times net (cover_outputs (narrow line inputs n table output fresh))

  -- no net behind the last new one
  narrow_past : (n table output fresh net : ℕ) → output < fresh → taken n table + fresh ≤ net → count n table output fresh net ≡ 0
  narrow_past zero table output fresh net old past = omega (arith, none_at output net (λ e. omega (arith, e, old, past)))
  narrow_past (suc n) table output fresh net old past =
      let low : ℕ = low_half n table in
      let high : ℕ = high_half n table in
      elim (cases_Bool (nat_lt n 4)) [
        | inl small ↦ (
            let none : taken (suc n) table ≡ 0 = rw small refl in
            let leaf : count (suc n) table output fresh net ≡ (if nat_eq output net then 1 else 0) + 0 = rw small refl in
            let apart = none_at output net (λ e. omega (arith, e, old, past, none)) in
            omega (arith, leaf, apart))
        | inr large ↦ elim (cases_Bool (nat_eq low high)) [
          | inl same ↦ (
              let fewer : taken (suc n) table ≡ taken n low = rw (large, same) refl in
              let inner : count (suc n) table output fresh net ≡ count n low output fresh net = rw (large, same) refl in
              inner ∙ narrow_past n low output fresh net old (omega (arith, past, fewer)))
          | inr other ↦ (
              let both : taken (suc n) table ≡ 2 + (taken n low + taken n high) = rw (large, other) refl in
              let later = taken n low + (2 + fresh) in
              let first = narrow line inputs n low fresh (2 + fresh) in
              let second = narrow line inputs n high (1 + fresh) later in
              let choose = cover_with line (fresh ∷ (1 + fresh) ∷ get_or inputs n 0 ∷ []) output chooser in
              let shape : narrow line inputs (suc n) table output fresh ≡ first ++ (second ++ choose ∷ []) = rw (large, other) refl in
              let a = narrow_past n low fresh (2 + fresh) net (omega arith) (omega (arith, past, both)) in
              let b = narrow_past n high (1 + fresh) later net (omega arith) (omega (arith, past, both)) in
              let c = none_at output net (λ e. omega (arith, e, old, past, both)) in
              ap (λ cs. times net (cover_outputs cs)) shape ∙ split_sum net first second choose ∙ omega (arith, a, b, c))
        ]
      ]

  -- a new net once
  narrow_new : (n table output fresh net : ℕ) → output < fresh → fresh ≤ net → net < taken n table + fresh → count n table output fresh net ≡ 1
  narrow_new zero table output fresh net old above below = absurd (omega (arith, above, below))
  narrow_new (suc n) table output fresh net old above below =
      let low : ℕ = low_half n table in
      let high : ℕ = high_half n table in
      elim (cases_Bool (nat_lt n 4)) [
        | inl small ↦ absurd (let none : taken (suc n) table ≡ 0 = rw small refl in omega (arith, above, below, none))
        | inr large ↦ elim (cases_Bool (nat_eq low high)) [
          | inl same ↦ (
              let fewer : taken (suc n) table ≡ taken n low = rw (large, same) refl in
              let inner : count (suc n) table output fresh net ≡ count n low output fresh net = rw (large, same) refl in
              inner ∙ narrow_new n low output fresh net old above (omega (arith, below, fewer)))
          | inr other ↦ (
              let both : taken (suc n) table ≡ 2 + (taken n low + taken n high) = rw (large, other) refl in
              let later = taken n low + (2 + fresh) in
              let first = narrow line inputs n low fresh (2 + fresh) in
              let second = narrow line inputs n high (1 + fresh) later in
              let choose = cover_with line (fresh ∷ (1 + fresh) ∷ get_or inputs n 0 ∷ []) output chooser in
              let shape : narrow line inputs (suc n) table output fresh ≡ first ++ (second ++ choose ∷ []) = rw (large, other) refl in
              let c = none_at output net (λ e. omega (arith, e, old, above)) in
              let sum : count (suc n) table output fresh net ≡ count n low fresh (2 + fresh) net + (count n high (1 + fresh) later net + 0) =
              ap (λ cs. times net (cover_outputs cs)) shape ∙ split_sum net first second choose ∙ omega (arith, c) in
              elim (cases_lt net (2 + fresh)) [
                | inl early ↦ (
                    let a = narrow_times line inputs n low fresh (2 + fresh) net early in
                    let b = narrow_times line inputs n high (1 + fresh) later net (omega (arith, early)) in
                    elim (cases_lt net (1 + fresh)) [
                      | inl is_a ↦ (
                          let a_one = one_at fresh net (omega (arith, is_a, above)) in
                          let b_none = none_at (1 + fresh) net (λ e. omega (arith, e, is_a)) in
                          sum ∙ omega (arith, a, b, a_one, b_none))
                      | inr is_b ↦ (
                          let a_none = none_at fresh net (λ e. omega (arith, e, is_b)) in
                          let b_one = one_at (1 + fresh) net (omega (arith, early, is_b)) in
                          sum ∙ omega (arith, a, b, a_none, b_one))
                    ])
                | inr behind ↦ elim (cases_lt net later) [
                  | inl in_first ↦ (
                      let a = narrow_new n low fresh (2 + fresh) net (omega arith) behind in_first in
                      let b = narrow_times line inputs n high (1 + fresh) later net in_first in
                      let b_none = none_at (1 + fresh) net (λ e. omega (arith, e, behind)) in
                      sum ∙ omega (arith, a, b, b_none))
                  | inr in_second ↦ (
                      let a = narrow_past n low fresh (2 + fresh) net (omega arith) in_second in
                      let b = narrow_new n high (1 + fresh) later net (omega arith) in_second (omega (arith, below, both)) in
                      sum ∙ omega (arith, a, b))
                ]
              ])
        ]
      ]

-- ---- all covers

-- an old net
pub parts_times : (covers : List PlainCover) (fresh net : ℕ) → net < fresh →
    times net (cover_outputs (all_parts covers fresh)) ≡ times net (cover_outputs covers)
parts_times [] fresh net old = refl
parts_times (cover ∷ covers) fresh net old =
    ap (times net) (map-append (λ (c : PlainCover). c.output) (parts cover fresh) (all_parts covers (taken_by cover + fresh)))
    ∙ times_joined net (cover_outputs (parts cover fresh)) (cover_outputs (all_parts covers (taken_by cover + fresh))) ∙ omega (
      arith,
      narrow_times cover.line cover.inputs (length cover.inputs) cover.table cover.output fresh net old,
      parts_times covers (taken_by cover + fresh) net (omega (arith, old)),
    )

-- no net behind the outputs of covers is driven by them
none_among : (covers : List PlainCover) (fresh net : ℕ) → ((cover : PlainCover) → Contains covers cover → cover.output < fresh) → fresh ≤ net →
    times net (cover_outputs covers) ≡ 0
none_among [] fresh net old above = refl
none_among (cover ∷ covers) fresh net old above =
    omega (
      arith,
      none_at cover.output net (λ e. omega (arith, e, above, old cover (first_in cover covers cover refl))),
      none_among covers fresh net (λ c here. old c (later_in cover covers c here)) above,
    )

-- the drivers in the parts of the first cover, and in those of the others
both_parts : (cover : PlainCover) (covers : List PlainCover) (fresh net : ℕ) →
    times net (cover_outputs (all_parts (cover ∷ covers) fresh)) ≡ times net (cover_outputs (parts cover fresh)) + times net
    (cover_outputs (all_parts covers (taken_by cover + fresh)))
both_parts cover covers fresh net =
    ap (times net) (map-append (λ (c : PlainCover). c.output) (parts cover fresh) (all_parts covers (taken_by cover + fresh)))
    ∙ times_joined net (cover_outputs (parts cover fresh)) (cover_outputs (all_parts covers (taken_by cover + fresh)))

-- no net behind the last new one
pub parts_past : (covers : List PlainCover) (fresh net : ℕ) → ((cover : PlainCover) → Contains covers cover → cover.output < fresh) →
    all_taken covers + fresh ≤ net → times net (cover_outputs (all_parts covers fresh)) ≡ 0
parts_past [] fresh net old past = refl
parts_past (cover ∷ covers) fresh net old past =
    let first = narrow_past cover.line cover.inputs (length cover.inputs) cover.table cover.output fresh net (old cover (first_in cover covers cover refl))
    (omega (arith, past)) in
    let rest = parts_past covers (taken_by cover + fresh) net (λ c here. omega (arith, old c (later_in cover covers c here))) (omega (arith, past)) in
    both_parts cover covers fresh net ∙ omega (arith, first, rest)

-- a new net once
pub parts_new : (covers : List PlainCover) (fresh net : ℕ) → ((cover : PlainCover) → Contains covers cover → cover.output < fresh) → fresh ≤ net →
    net < all_taken covers + fresh →
    times net (cover_outputs (all_parts covers fresh)) ≡ 1
parts_new [] fresh net old above below = absurd (omega (arith, above, below))
parts_new (cover ∷ covers) fresh net old above below =
    let first_old = old cover (first_in cover covers cover refl) in
    let rest_old : (c : PlainCover) → Contains covers c → c.output < fresh = λ c here. old c (later_in cover covers c here) in
    let later = taken_by cover + fresh in
    elim (cases_lt net later) [
      | inl in_first ↦ (
          let first = narrow_new cover.line cover.inputs (length cover.inputs) cover.table cover.output fresh net first_old above in_first in
          let rest : times net (cover_outputs (all_parts covers later)) ≡ 0 = parts_times covers later net in_first ∙ none_among covers fresh net rest_old
          above in
          both_parts cover covers fresh net ∙ omega (arith, first, rest))
      | inr in_rest ↦ (
          let first = narrow_past cover.line cover.inputs (length cover.inputs) cover.table cover.output fresh net first_old in_rest in
          let rest = parts_new covers later net (λ c here. omega (arith, rest_old c here)) in_rest (omega (arith, below)) in
          both_parts cover covers fresh net ∙ omega (arith, first, rest))
    ]
