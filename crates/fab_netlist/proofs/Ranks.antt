-- A rank of covers exists exactly where no list of them is a cycle.
use Rattle.std.proofs.Common.{◌≡◌, ℕ, zero, suc, ◌+◌, ◌<◌, ◌≤◌, Bool, true, false, ◌&&◌, ◌||◌, List, [], ◌∷◌, length, Contains, if◌then◌else◌, nat_eq, refl, sym, ap, ◌∙◌, subst, inl, inr, arith, eq-eqb, eqb-true}
use Rattle.std.specs.List.{list_any}
use Rattle.std.proofs.lemmas.Bool.{cases_Bool, eqb-false, false≢true, or_cases}
use Rattle.fab_netlist.specs.Plain.{PlainNetlist, cover_at}
use Rattle.fab_netlist.specs.Cycles.{ReadsOn, HasNoCycle, IsRank, HasRank}
use Rattle.fab_netlist.proofs.Members.{in_none, first_or_later, first_in, later_in, either_true, both_true, parts_true, any_by, any_gives, number_any, any_number}

-- ranks fall along a chain of covers
ranks_fall : (netlist : PlainNetlist) (rank : ℕ → ℕ) → IsRank netlist rank → (first : ℕ) (rest : List ℕ) (end : ℕ) → ReadsOn netlist first rest end → rank end < rank first
ranks_fall netlist rank ranks first [] end leads = ranks first end leads
ranks_fall netlist rank ranks first (second ∷ rest) end leads = omega (arith, ranks first second leads.0, ranks_fall netlist rank ranks second rest end leads.1)

-- where there is a rank, there is no cycle
pub rank_no_cycle : (netlist : PlainNetlist) → HasRank netlist → HasNoCycle netlist
rank_no_cycle netlist ranked [] cycle = cycle
rank_no_cycle netlist ranked (first ∷ rest) cycle = omega (arith, ranks_fall netlist ranked.0 ranked.1 first rest first cycle)

-- the sum of ranks
pub ranks_sum : (ℕ → ℕ) → List ℕ → ℕ
ranks_sum rank [] = 0
ranks_sum rank (node ∷ nodes) = rank node + ranks_sum rank nodes

-- no rank is above the sum
pub below_sum : (rank : ℕ → ℕ) (nodes : List ℕ) (node : ℕ) → Contains nodes node → rank node ≤ ranks_sum rank nodes
unfolding ranks_sum
below_sum rank [] node here = absurd (in_none node here)
below_sum rank (other ∷ nodes) node here =
    elim (first_or_later other nodes node here) [
      | inl same ↦ omega (arith, ap rank same)
      | inr later ↦ omega (arith, below_sum rank nodes node later)
    ]

module _ (edge : ℕ → ℕ → Bool) where
  -- a walk along edges, with its inner nodes in a list
  abbrev pub Walks : (nodes : List ℕ) (first : ℕ) (inner : List ℕ) (end : ℕ) → Type 0
  Walks nodes first [] end = edge first end ≡ true
  Walks nodes first (second ∷ inner) end = (edge first second ≡ true) × Contains nodes second × Walks nodes second inner end

  -- no walk leads back
  abbrev pub HasNoRound : List ℕ → Type 0
  HasNoRound nodes = (node : ℕ) (inner : List ℕ) → Contains nodes node → Walks nodes node inner node → ⊥

  -- ranks fall along edges
  abbrev pub Falls : List ℕ → (ℕ → ℕ) → Type 0
  Falls nodes rank = (a b : ℕ) → Contains nodes a → Contains nodes b → edge a b ≡ true → rank b < rank a

  -- a walk stays one where nodes are added
  walks_in_more : (extra : ℕ) (nodes : List ℕ) (first : ℕ) (inner : List ℕ) (end : ℕ) → Walks nodes first inner end → Walks (extra ∷ nodes) first inner end
  walks_in_more extra nodes first [] end walk = walk
  walks_in_more extra nodes first (second ∷ inner) end walk = (walk.0, later_in extra nodes second walk.1, walks_in_more extra nodes second inner end walk.2)

  -- whether a walk of at most so many edges leads to the goal
  arrives : (target : ℕ) (nodes : List ℕ) (edges : ℕ) (node : ℕ) → Bool
  arrives target nodes zero node = false
  arrives target nodes (suc edges) node = edge node target || list_any (λ next. edge node next && arrives target nodes edges next) nodes

  -- where the test says so, there is a walk
  arrives_walks : (target : ℕ) (nodes : List ℕ) (edges node : ℕ) → arrives target nodes edges node ≡ true → (inner : List ℕ) × Walks (target ∷ nodes) node inner target
  unfolding arrives
  arrives_walks target nodes zero node goes = absurd (false≢true goes)
  arrives_walks target nodes (suc edges) node goes =
      elim (or_cases (edge node target) (list_any (λ next. edge node next && arrives target nodes edges next) nodes) goes) [
        | inl now ↦ ([], now)
        | inr later ↦ (
            let next = any_gives (λ next. edge node next && arrives target nodes edges next) nodes later in
            let parts = parts_true (edge node next.0) (arrives target nodes edges next.0) next.2 in
            let rest = arrives_walks target nodes edges next.0 parts.1 in
            (next.0 ∷ rest.0, (parts.0, later_in target nodes next.0 next.1, rest.1)))
      ]

  -- by one edge
  arrives_at_once : (target : ℕ) (nodes : List ℕ) (edges node : ℕ) → edge node target ≡ true → arrives target nodes (suc edges) node ≡ true
  unfolding arrives
  arrives_at_once target nodes edges node now = either_true (edge node target) (list_any (λ next. edge node next && arrives target nodes edges next) nodes) (inl now)

  -- by an edge and a walk
  arrives_by : (target : ℕ) (nodes : List ℕ) (edges node next : ℕ) → Contains nodes next → edge node next ≡ true → arrives target nodes edges next ≡ true → arrives target nodes (suc edges) node ≡ true
  unfolding arrives
  arrives_by target nodes edges node next here step goes =
      either_true (edge node target) (list_any (λ other. edge node other && arrives target nodes edges other) nodes)
      (inr (any_by (λ other. edge node other && arrives target nodes edges other) nodes next here (both_true (edge node next) (arrives target nodes edges next) step goes)))

  -- more edges do no harm
  arrives_with_more : (target : ℕ) (nodes : List ℕ) (few many node : ℕ) → few ≤ many → arrives target nodes few node ≡ true → arrives target nodes many node ≡ true
  unfolding arrives
  arrives_with_more target nodes zero many node less goes = absurd (false≢true goes)
  arrives_with_more target nodes (suc few) zero node less goes = absurd (omega arith)
  arrives_with_more target nodes (suc few) (suc many) node less goes =
      elim (or_cases (edge node target) (list_any (λ next. edge node next && arrives target nodes few next) nodes) goes) [
        | inl now ↦ arrives_at_once target nodes many node now
        | inr later ↦ (
            let next = any_gives (λ next. edge node next && arrives target nodes few next) nodes later in
            let parts = parts_true (edge node next.0) (arrives target nodes few next.0) next.2 in
            arrives_by target nodes many node next.0 next.1 parts.0 (arrives_with_more target nodes few many next.0 (omega arith) parts.1))
      ]

  -- a rank of some nodes, and one more node: all that lead to it move above it
  module _ (extra : ℕ) (nodes : List ℕ) (rounds : HasNoRound (extra ∷ nodes)) (rank : ℕ → ℕ) (falls : Falls nodes rank) where
    -- whether a node leads to the new one
    is_above : ℕ → Bool
    is_above node = arrives extra nodes (suc (rank node)) node

    -- the rank of the new node
    middle : ℕ
    middle = suc (ranks_sum rank nodes)

    -- ranks with the new node
    new_rank : ℕ → ℕ
    new_rank node = if nat_eq node extra then middle else (if is_above node then suc middle + rank node else rank node)

    -- old ranks are below it
    old_below : (node : ℕ) → Contains nodes node → rank node < middle
    unfolding middle
    old_below node here = omega (arith, below_sum rank nodes node here)

    -- the rank of the new node itself
    rank_of_extra : (node : ℕ) → nat_eq node extra ≡ true → new_rank node ≡ middle
    unfolding new_rank
    rank_of_extra node equal = rw equal refl

    -- of a node that leads to it
    rank_above : (node : ℕ) → nat_eq node extra ≡ false → is_above node ≡ true → new_rank node ≡ suc middle + rank node
    unfolding new_rank
    rank_above node other above = rw (other, above) refl

    -- of any other
    rank_below : (node : ℕ) → nat_eq node extra ≡ false → is_above node ≡ false → new_rank node ≡ rank node
    unfolding new_rank
    rank_below node other below = rw (other, below) refl

    -- a node other than the new one is an old one
    old_node : (node : ℕ) → Contains (extra ∷ nodes) node → nat_eq node extra ≡ false → Contains nodes node
    old_node node here other =
        elim (first_or_later extra nodes node here) [
          | inl same ↦ absurd (false≢true (sym other ∙ eq-eqb node extra (sym same)))
          | inr later ↦ later
        ]

    -- ranks fall from the new node on
    from_extra : (a b : ℕ) → nat_eq a extra ≡ true → Contains (extra ∷ nodes) b → edge a b ≡ true → new_rank b < new_rank a
    unfolding is_above
    from_extra a b same_a here_b step =
        let begins : edge extra b ≡ true = subst (λ (node : ℕ). edge node b ≡ true) (eqb-true a extra same_a) step in
        elim (cases_Bool (nat_eq b extra)) [
          | inl same_b ↦ absurd (rounds extra [] (first_in extra nodes extra refl) (subst (λ (node : ℕ). edge extra node ≡ true) (eqb-true b extra same_b) begins))
          | inr other_b ↦ elim (cases_Bool (is_above b)) [
            | inl above ↦ absurd (
                let walk = arrives_walks extra nodes (suc (rank b)) b above in
                rounds extra (b ∷ walk.0) (first_in extra nodes extra refl) (begins, here_b, walk.1))
            | inr below ↦ omega (arith, rank_of_extra a same_a, rank_below b other_b below, old_below b (old_node b here_b other_b))
          ]
        ]

    -- and between old ones
    from_old : (a b : ℕ) → nat_eq a extra ≡ false → nat_eq b extra ≡ false → Contains nodes a → Contains nodes b → edge a b ≡ true → new_rank b < new_rank a
    unfolding is_above
    from_old a b other_a other_b here_a here_b step =
        let less : rank b < rank a = falls a b here_a here_b step in
        elim (cases_Bool (is_above b)) [
          | inl above_b ↦ (
              let above_a : is_above a ≡ true = arrives_by extra nodes (rank a) a b here_b step (arrives_with_more extra nodes (suc (rank b)) (rank a) b less above_b) in
              omega (arith, rank_above a other_a above_a, rank_above b other_b above_b, less))
          | inr below_b ↦ elim (cases_Bool (is_above a)) [
            | inl above_a ↦ omega (arith, rank_above a other_a above_a, rank_below b other_b below_b, old_below b here_b)
            | inr below_a ↦ omega (arith, rank_below a other_a below_a, rank_below b other_b below_b, less)
          ]
        ]

    -- so they fall along all edges
    new_falls : Falls (extra ∷ nodes) new_rank
    unfolding is_above
    new_falls a b here_a here_b step =
        elim (cases_Bool (nat_eq a extra)) [
          | inl same_a ↦ from_extra a b same_a here_b step
          | inr other_a ↦ elim (cases_Bool (nat_eq b extra)) [
            | inl same_b ↦ (
                let above_a : is_above a ≡ true = arrives_at_once extra nodes (rank a) a (subst (λ (node : ℕ). edge a node ≡ true) (eqb-true b extra same_b) step) in
                omega (arith, rank_above a other_a above_a, rank_of_extra b same_b))
            | inr other_b ↦ from_old a b other_a other_b (old_node a here_a other_a) (old_node b here_b other_b) step
          ]
        ]

  -- nodes without a round have a rank
  pub ranked : (nodes : List ℕ) → HasNoRound nodes → (rank : ℕ → ℕ) × Falls nodes rank
  ranked [] rounds = ((λ node. 0), (λ a b here_a here_b step. absurd (in_none a here_a)))
  ranked (extra ∷ nodes) rounds =
      let rest = ranked nodes (λ node inner here walk. rounds node inner (later_in extra nodes node here) (walks_in_more extra nodes node inner node walk)) in
      (new_rank extra nodes rounds rest.0 rest.1, new_falls extra nodes rounds rest.0 rest.1)

-- the places below a number
abbrev pub places_below : ℕ → List ℕ
places_below zero = []
places_below (suc count) = count ∷ places_below count

-- a small place is listed
pub below_in : (count place : ℕ) → place < count → Contains (places_below count) place
below_in zero place less = absurd (omega arith)
below_in (suc count) place less =
    elim (cases_Bool (nat_eq count place)) [
      | inl same ↦ first_in count (places_below count) place (eqb-true count place same)
      | inr other ↦ later_in count (places_below count) place (below_in count place (omega (arith, eqb-false count place other)))
    ]

-- a listed place is small
pub in_below : (count place : ℕ) → Contains (places_below count) place → place < count
in_below zero place here = absurd (in_none place here)
in_below (suc count) place here =
    elim (first_or_later count (places_below count) place here) [
      | inl same ↦ omega (arith, same)
      | inr later ↦ omega (arith, in_below count place later)
    ]

-- whether a cover reads the output of another
abbrev reads_test : PlainNetlist → ℕ → ℕ → Bool
reads_test netlist reader source = list_any (λ net. nat_eq net (cover_at netlist source).output) (cover_at netlist reader).inputs

module _ (netlist : PlainNetlist) where
  -- places of covers
  below_all : (place : ℕ) → Contains (places_below (length netlist.covers)) place → place < length netlist.covers
  below_all place here = in_below (length netlist.covers) place here

  -- a walk along reads is a chain of covers
  walk_leads : (first : ℕ) (inner : List ℕ) (end : ℕ) → first < length netlist.covers → end < length netlist.covers → Walks (reads_test netlist) (places_below (length netlist.covers)) first inner end → ReadsOn netlist first inner end
  walk_leads first [] end small_first small_end walk = (small_first, small_end, any_number (cover_at netlist first).inputs (cover_at netlist end).output walk)
  walk_leads first (second ∷ inner) end small_first small_end walk =
      let small : second < length netlist.covers = below_all second walk.1 in
      ((small_first, small, any_number (cover_at netlist first).inputs (cover_at netlist second).output walk.0), walk_leads second inner end small small_end walk.2)

  -- where there is no cycle, there is a rank
  pub no_cycle_rank : HasNoCycle netlist → HasRank netlist
  no_cycle_rank none =
      let found = ranked (reads_test netlist) (places_below (length netlist.covers)) (λ node inner here walk.
      let small = below_all node here in
      none (node ∷ inner) (walk_leads node inner node small small walk)) in (
        found.0,
        λ reader source reads.
            found.1 reader source (below_in (length netlist.covers) reader reads.0) (below_in (length netlist.covers) source reads.1)
            (number_any (cover_at netlist reader).inputs (cover_at netlist source).output reads.2),
      )
