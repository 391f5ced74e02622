-- Orders in which covers stand behind those that they read.
use Rattle.std.proofs.Common.{◌≡◌, ◌⊎◌, ℕ, zero, suc, ◌<◌, List, [], ◌∷◌, ◌++◌, length, Contains, nat_eq, refl, ap, ◌∙◌, inl, inr, arith, eqb-true}
use Rattle.std.proofs.lemmas.Bool.{cases_Bool, eqb-false}
use Rattle.fab_netlist.specs.Plain.{PlainNetlist}
use Rattle.fab_netlist.specs.Cycles.{Reads, HasNoCycle, IsRank}
use Rattle.fab_netlist.specs.inner.Order.{StandBehind, IsOrder}
use Rattle.fab_netlist.proofs.Members.{in_none, first_or_later, first_in, later_in, in_left, in_right}
use Rattle.fab_netlist.proofs.Ranks.{ranks_sum, below_sum, no_cycle_rank, places_below, below_in, in_below}

-- one more cover, which reads only those
pub behind_more : (netlist : PlainNetlist) (first places : List ℕ) (last : ℕ) → StandBehind netlist first places → last < length netlist.covers →
    ((source : ℕ) → Reads netlist last source → Contains first source ⊎ Contains places source) → StandBehind netlist first (places ++ last ∷ [])
behind_more netlist first [] last behind small reads =
    (small, (λ source read. elim (reads source read) [ inl before ↦ before | inr none ↦ absurd (in_none source none) ]), tt)
behind_more netlist first (place ∷ places) last behind small reads = (
  behind.0,
  behind.1,
  behind_more netlist (place ∷ first) places last behind.2 small (λ source read.
      elim (reads source read) [
        | inl before ↦ inl (later_in place first source before)
        | inr here ↦ elim (first_or_later place places source here) [
          | inl same ↦ inl (first_in place first source same)
          | inr later ↦ inr later
        ]
      ]),
)

module _ (netlist : PlainNetlist) (rank : ℕ → ℕ) (ranks : IsRank netlist rank) where
  -- an order to which the places of a list that have one rank are added, where those of lower rank are in it
  with_rank : (level : ℕ) (places : List ℕ) → ((place : ℕ) → Contains places place → place < length netlist.covers) →
      (order : List ℕ) → StandBehind netlist [] order → ((place : ℕ) → place < length netlist.covers → rank place < level → Contains order place) →
      (longer : List ℕ) × StandBehind netlist [] longer × ((place : ℕ) → Contains order place → Contains longer place) × ((place : ℕ) → Contains places place → rank place ≡ level → Contains longer place)
  with_rank level [] small order behind below = (order, behind, (λ place here. here), (λ place none same. absurd (in_none place none)))
  with_rank level (first ∷ places) small order behind below =
      elim (cases_Bool (nat_eq (rank first) level)) [
        | inl equal ↦ (
            let at : rank first ≡ level = eqb-true (rank first) level equal in
            let next = with_rank level places (λ place here. small place (later_in first places place here)) (order ++ first ∷ [])
            (behind_more netlist [] order first behind (small first (first_in first places first refl)) (λ source read. inr (below source read.1 (omega (arith, at, ranks first source read)))))
            (λ place within less. in_left order (first ∷ []) place (below place within less)) in (
              next.0,
              next.1,
              (λ place here. next.2 place (in_left order (first ∷ []) place here)),
              (λ place here same. elim (first_or_later first places place here) [
                | inl is ↦ next.2 place (in_right order (first ∷ []) place (first_in first [] place is))
                | inr later ↦ next.3 place later same
              ]),
            ))
        | inr other ↦ (
            let next = with_rank level places (λ place here. small place (later_in first places place here)) order behind below in (
              next.0,
              next.1,
              next.2,
              (λ place here same. elim (first_or_later first places place here) [
                | inl is ↦ absurd (eqb-false (rank first) level other (ap rank is ∙ same))
                | inr later ↦ next.3 place later same
              ]),
            ))
      ]

  -- an order of the covers below a rank
  up_to : (level : ℕ) → (order : List ℕ) × StandBehind netlist [] order × ((place : ℕ) → place < length netlist.covers → rank place < level → Contains order place)
  up_to zero = ([], tt, (λ place small less. absurd (omega arith)))
  up_to (suc level) =
      let before = up_to level in
      let more = with_rank level (places_below (length netlist.covers)) (λ place here. in_below (length netlist.covers) place here) before.0 before.1 before.2 in (
        more.0,
        more.1,
        (λ place small less. elim (cases_Bool (nat_eq (rank place) level)) [
          | inl equal ↦ more.3 place (below_in (length netlist.covers) place small) (eqb-true (rank place) level equal)
          | inr other ↦ more.2 place (before.2 place small (omega (arith, less, eqb-false (rank place) level other)))
        ]),
      )

-- where there is no cycle, there is an order
pub no_cycle_order : (netlist : PlainNetlist) → HasNoCycle netlist → (order : List ℕ) × IsOrder netlist order
no_cycle_order netlist none =
    let ranked = no_cycle_rank netlist none in
    let places = places_below (length netlist.covers) in
    let found = up_to netlist ranked.0 ranked.1 (suc (ranks_sum ranked.0 places)) in
    (found.0, record { behind = found.1; all = λ place small. found.2 place small (omega (arith, below_sum ranked.0 places place (below_in (length netlist.covers) place small))) })

-- places of covers
pub order_within : (netlist : PlainNetlist) (first places : List ℕ) → StandBehind netlist first places → (place : ℕ) → Contains places place → place < length netlist.covers
order_within netlist first [] behind place here = absurd (in_none place here)
order_within netlist first (next ∷ places) behind place here =
    elim (first_or_later next places place here) [
      | inl same ↦ omega (arith, behind.0, same)
      | inr later ↦ order_within netlist (next ∷ first) places behind.2 place later
    ]
