-- The starts at nodes, by a list of them in which no node has two.
use Rattle.std.proofs.Common.{◌≡◌, ◌⊎◌, ◌↔◌, ◌<◌, ◌+◌, ℕ, List, [], ◌∷◌, ◌++◌, take, set, length, get_or, replicate, Contains, Option, Some, None, sym, ap, ◌∙◌, subst, inl, inr, arith}
use Rattle.std.proofs.lemmas.Bool.{cases_lt}
use Rattle.std.proofs.lemmas.Bool.Decides.{eqb_tells}
use Rattle.std.proofs.lemmas.List.{take_more, length-replicate, length-take, length-take-le, get_or-replicate, get_or-take, get_or_past, get_or-set_same, get_or-set_other}
use Rattle.std.proofs.lemmas.List.Elements.{Contains-append_left, Contains-append_right}
use Rattle.fab_timing.specs.inner.Passes.{AreApart}
use Rattle.fab_timing.specs.inner.Tables.{sum_at}
use Rattle.fab_timing.proofs.Added.{one_more}

-- the table has the first starts of the list
abbrev HasStarts : List (Option ℕ) → List (ℕ × ℕ) → Type 0
HasStarts table starts = (node units : ℕ) → (sum_at table node ≡ Some units) ↔ Contains starts (node, units)

-- a table that was just made has nothing
pub none_set : (table : List (Option ℕ)) (count : ℕ) → table ≡ replicate count None → (node : ℕ) → sum_at table node ≡ None
none_set table count is node =
    ap (λ (t : List (Option ℕ)). sum_at t node) is
    ∙ elim (cases_lt node count) [
      | inl less ↦ get_or-replicate count node None None less
      | inr past ↦ (let long = length-replicate {A = Option ℕ} count None in get_or_past (replicate count None) node None (omega (arith, past, long)))
    ]

pub no_starts : (table : List (Option ℕ)) (starts : List (ℕ × ℕ)) → ((node : ℕ) → sum_at table node ≡ None) → HasStarts table (take 0 starts)
no_starts table starts none node units = (
  (λ some. absurd (let bad : None ≡ Some units = sym (none node) ∙ some in let worse : ⊥ = cc in worse)),
  λ listed. absurd (omega (arith, listed.1, length-take-le 0 starts (omega arith))),
)

-- members of the first items are members
of_taken : (starts : List (ℕ × ℕ)) (k : ℕ) (start : ℕ × ℕ) → Contains (take k starts) start → Contains starts start
of_taken starts k start (place, within, same) =
    let count = length-take k starts in
    (place, omega (arith, within, count), sym (get_or-take k starts place start (omega (arith, within, count))) ∙ same)

some_same : (a b : ℕ) → Some a ≡ Some b → a ≡ b
some_same a b same = cc

pub start_more : (table : List (Option ℕ)) (starts : List (ℕ × ℕ)) (k : ℕ) (start : ℕ × ℕ) → AreApart starts → k < length starts → get_or starts k start ≡ start → start.0 < length table →
    HasStarts table (take k starts) → HasStarts (set table start.0 (Some start.1)) (take (k + 1) starts)
start_more table starts k start apart within at inside has node units =
    elim (eqb_tells node start.0) [
      | inl same ↦ here same.1
      | inr other ↦ there other.1
    ]
  where
    taken : take (k + 1) starts ≡ take k starts ++ start ∷ []
    taken = take_more starts k start within ∙ ap (λ (z : ℕ × ℕ). take k starts ++ z ∷ []) at

    grows : Contains (take k starts) (node, units) → Contains (take (k + 1) starts) (node, units)
    grows listed = subst (λ (zs : List (ℕ × ℕ)). Contains zs (node, units)) (sym taken) (Contains-append_left (take k starts) (start ∷ []) (node, units) listed)

    ends : start ≡ (node, units) → Contains (take (k + 1) starts) (node, units)
    ends same = subst (λ (zs : List (ℕ × ℕ)). Contains zs (node, units)) (sym taken) (Contains-append_right (take k starts) (start ∷ []) (node, units) (0, omega arith, same))

    split : Contains (take (k + 1) starts) (node, units) → Contains (take k starts) (node, units) ⊎ (start ≡ (node, units))
    split listed = one_more (take k starts) start (node, units) (subst (λ (zs : List (ℕ × ℕ)). Contains zs (node, units)) taken listed)

    alike : node ≡ start.0 → Contains (take k starts) (node, units) → start ≡ (node, units)
    alike same listed = apart start (node, units) (k, within, at) (of_taken starts k (node, units) listed) (sym same)

    here : node ≡ start.0 → (sum_at (set table start.0 (Some start.1)) node ≡ Some units) ↔ Contains (take (k + 1) starts) (node, units)
    here same =
        let is : sum_at (set table start.0 (Some start.1)) node ≡ Some start.1 = ap (sum_at (set table start.0 (Some start.1))) same ∙ get_or-set_same table start.0 (Some start.1) None inside in (
          (λ some.
              let units_are : start.1 ≡ units = some_same start.1 units (sym is ∙ some) in
              ends (λ j. (sym same j, units_are j))),
          λ listed.
              (let equal : start ≡ (node, units) = elim (split listed) [ inl earlier ↦ alike same earlier | inr last ↦ last ] in
              is ∙ ap (λ (z : ℕ × ℕ). Some z.1) equal),
        )

    there : (node ≡ start.0 → ⊥) → (sum_at (set table start.0 (Some start.1)) node ≡ Some units) ↔ Contains (take (k + 1) starts) (node, units)
    there other =
        let stays : sum_at (set table start.0 (Some start.1)) node ≡ sum_at table node = get_or-set_other table start.0 node (Some start.1) None other in (
          (λ some. grows ((has node units).0 (sym stays ∙ some))),
          λ listed. elim (split listed) [
            | inl earlier ↦ stays ∙ (has node units).1 earlier
            | inr last ↦ absurd (other (ap (λ (z : ℕ × ℕ). z.0) (sym last)))
          ],
        )
