-- Each latch of a netlist has exactly one cell.
use Rattle.std.proofs.Common.{◌≡◌, ◌⊎◌, ℕ, zero, suc, ◌+◌, ◌<◌, ◌≤◌, Bool, List, [], ◌∷◌, ◌++◌, length, map, Option, Some, None, nat_eq, refl, sym, ◌∙◌, subst, inl, inr, arith, eqb-true}
use Rattle.std.specs.List.{filter}
use Rattle.std.proofs.lemmas.Bool.{cases_Bool}
use Rattle.fab_netlist.specs.declared.netlist.Latch.{Latch}
use Rattle.fab_netlist.specs.Plain.{PlainCover, PlainNetlist, IsAt}
use Rattle.fab_netlist.specs.WellMade.{IsWellMade, times, cover_outputs, latch_inputs}
use Rattle.fab_netlist.specs.Kept.{is_kept}
use Rattle.fab_netlist.specs.Packing.{Work, of_cover, of_latch, pair, is_paired, others, works, latch_of}
use Rattle.fab_netlist.proofs.Members.{at_in}
use Rattle.fab_netlist.proofs.Counts.{one_place, at_mapped}
use Rattle.fab_netlist.proofs.Wired.{wired}
use Rattle.fab_netlist.proofs.Meaning.{covers_once}
use Rattle.fab_netlist.proofs.Works.{other_seen, IsWork, is_work, pair_at, latch_work}
use Rattle.fab_points_laws.proofs.fab_legal_Lists.{same_at, at_from_mapped}
use Rattle.fab_points_laws.proofs.fab_legal_Members.{place_in}

-- ---- lists

-- a place in two lists, one after the other
in_one_of : {X : Type 0} (xs ys : List X) (k : ℕ) (x : X) → IsAt (xs ++ ys) k x → IsAt xs k x ⊎ ((m : ℕ) × (k ≡ length xs + m) × IsAt ys m x)
in_one_of [] ys k x at = inr (k, omega arith, at)
in_one_of (first ∷ xs) ys zero x at = inl (omega arith, at.1)
in_one_of (first ∷ xs) ys (suc k) x at =
    elim (in_one_of xs ys k x (omega (arith, at.0), at.1)) [
      | inl here ↦ inl (omega (arith, here.0), here.1)
      | inr later ↦ inr (later.0, omega (arith, later.1), later.2)
    ]

filtered_times : (test : PlainCover → Bool) (covers : List PlainCover) (net : ℕ) → times net (cover_outputs (filter test covers)) ≤ times net (cover_outputs covers)
filtered_times test [] net = omega arith
filtered_times test (cover ∷ covers) net =
    let rest = filtered_times test covers net in
    elim (cases_Bool (test cover)) [ inl passes ↦ rw passes (omega (arith, rest)) | inr fails ↦ rw fails (omega (arith, rest)) ]

-- ---- latches without a pair

not_before : (netlist : PlainNetlist) (start : ℕ) (latches : List Latch) (place : ℕ) → place < start → times place (others netlist start latches) ≡ 0
not_before netlist start [] place less = refl
not_before netlist start (latch ∷ latches) place less =
    let rest = not_before netlist (suc start) latches place (omega (arith, less)) in
    elim (cases_Bool (is_paired netlist latch)) [
      | inl paired ↦ rw paired rest
      | inr lone ↦ elim (cases_Bool (nat_eq start place)) [
        | inl same ↦ (let e = eqb-true start place same in absurd (omega (arith, less, e)))
        | inr other ↦ rw (lone, other) (omega (arith, rest))
      ]
    ]

others_once : (netlist : PlainNetlist) (start : ℕ) (latches : List Latch) (place : ℕ) → times place (others netlist start latches) ≤ 1
others_once netlist start [] place = omega arith
others_once netlist start (latch ∷ latches) place =
    let rest = others_once netlist (suc start) latches place in
    elim (cases_Bool (is_paired netlist latch)) [
      | inl paired ↦ rw paired rest
      | inr lone ↦ elim (cases_Bool (nat_eq start place)) [
        | inl same ↦ (
            let e = eqb-true start place same in
            let none = not_before netlist (suc start) latches place (omega (arith, e)) in
            rw (lone, same) (omega (arith, none)))
        | inr other ↦ rw (lone, other) (omega (arith, rest))
      ]
    ]

-- ---- cells of latches

module _ (netlist : PlainNetlist) (made : IsWellMade netlist) where
  abbrev kept : List PlainCover
  kept = filter (is_kept netlist) netlist.covers

  abbrev made_of : PlainCover → Work
  made_of cover = of_cover cover (pair netlist cover)

  abbrev lone : List ℕ
  lone = others netlist 0 netlist.latches

  same_cover : (a b : PlainCover) (l m : Option ℕ) → of_cover a l ≡ of_cover b m → a ≡ b
  same_cover a b l m is = cc

  same_latch : (a b : ℕ) → of_latch a ≡ of_latch b → a ≡ b
  same_latch a b is = cc

  -- the cells of a cover stand at one place
  one_of_covers : (a b : PlainCover) (l m : Option ℕ) (j k : ℕ) → a.output ≡ b.output → IsAt (works netlist) j (of_cover a l) → IsAt (works netlist) k (of_cover b m) → j ≡ k
  one_of_covers a b l m j k same at_j at_k =
      let first = place_of_cover a l j at_j in
      let second = place_of_cover b m k at_k in
      let few = covers_once netlist (wired made) b.output in
      let fewer = filtered_times (is_kept netlist) netlist.covers b.output in
      one_place b.output (cover_outputs kept) j k (omega (arith, few, fewer)) (subst (IsAt (cover_outputs kept) j) same first) second
    where
      place_of_cover : (cover : PlainCover) (l : Option ℕ) (k : ℕ) → IsAt (works netlist) k (of_cover cover l) → IsAt (cover_outputs kept) k cover.output
      place_of_cover cover l k at =
          elim (in_one_of (map made_of kept) (map of_latch lone) k (of_cover cover l) at) [
            | inl here ↦ (
                let from = at_from_mapped made_of kept k (of_cover cover l) here in
                let same : from.0 ≡ cover = same_cover from.0 cover (pair netlist from.0) l from.2 in
                at_mapped (λ (c : PlainCover). c.output) kept k cover (subst (IsAt kept k) same from.1))
            | inr later ↦ absurd (let from = at_from_mapped of_latch lone later.0 (of_cover cover l) later.2 in let e = from.2 in cc)
          ]

  -- the cell of a latch alone stands at one place
  one_of_latches : (latch j k : ℕ) → IsAt (works netlist) j (of_latch latch) → IsAt (works netlist) k (of_latch latch) → j ≡ k
  one_of_latches latch j k at_j at_k =
      let first = place_of_latch j at_j in
      let second = place_of_latch k at_k in
      let same = one_place latch lone first.0 second.0 (others_once netlist 0 netlist.latches latch) first.2 second.2 in
      omega (arith, first.1, second.1, same)
    where
      place_of_latch : (k : ℕ) → IsAt (works netlist) k (of_latch latch) → (m : ℕ) × (k ≡ length (map made_of kept) + m) × IsAt lone m latch
      place_of_latch k at =
          elim (in_one_of (map made_of kept) (map of_latch lone) k (of_latch latch) at) [
            | inl here ↦ absurd (let from = at_from_mapped made_of kept k (of_latch latch) here in let e = from.2 in cc)
            | inr later ↦ (
                let from = at_from_mapped of_latch lone later.0 (of_latch latch) later.2 in
                (later.0, later.1, subst (IsAt lone later.0) (same_latch from.0 latch from.2) from.1))
          ]

  -- a latch that is paired with a cover is not alone
  not_both : (cover : PlainCover) (latch : ℕ) → IsWork netlist (of_cover cover (Some latch)) → IsWork netlist (of_latch latch) → ⊥
  not_both cover latch covered alone =
      let input = pair_at netlist cover latch covered.1 in
      let here : IsAt (latch_inputs netlist) latch alone.0.input = at_mapped (λ (l : Latch). l.input) netlist.latches latch alone.0 alone.1 in
      let same : cover.output ≡ alone.0.input = same_at (latch_inputs netlist) latch cover.output alone.0.input input here in
      let none = (other_seen netlist alone.0 (at_in netlist.latches latch alone.0 alone.1) alone.2 cover covered.0 same).1 in
      let bad : None ≡ Some latch = sym none ∙ covered.1 in
      cc

  by_works : (latch : ℕ) (a b : Work) (j k : ℕ) → latch_of a ≡ Some latch → latch_of b ≡ Some latch → IsAt (works netlist) j a → IsAt (works netlist) k b → IsWork netlist a → IsWork netlist b → j ≡ k
  by_works latch (of_cover a l) (of_cover b m) j k has_a has_b at_j at_k is_a is_b =
      let first = pair_at netlist a latch (is_a.1 ∙ has_a) in
      let second = pair_at netlist b latch (is_b.1 ∙ has_b) in
      one_of_covers a b l m j k (same_at (latch_inputs netlist) latch a.output b.output first second) at_j at_k
  by_works latch (of_cover a l) (of_latch b) j k has_a has_b at_j at_k is_a is_b =
      let same : b ≡ latch = cc in
      absurd (not_both a latch (is_a.0, is_a.1 ∙ has_a) (subst (λ (n : ℕ). IsWork netlist (of_latch n)) same is_b))
  by_works latch (of_latch a) (of_cover b m) j k has_a has_b at_j at_k is_a is_b =
      let same : a ≡ latch = cc in
      absurd (not_both b latch (is_b.0, is_b.1 ∙ has_b) (subst (λ (n : ℕ). IsWork netlist (of_latch n)) same is_a))
  by_works latch (of_latch a) (of_latch b) j k has_a has_b at_j at_k is_a is_b =
      let first : a ≡ latch = cc in
      let second : b ≡ latch = cc in
      one_of_latches latch j k (subst (λ (n : ℕ). IsAt (works netlist) j (of_latch n)) first at_j) (subst (λ (n : ℕ). IsAt (works netlist) k (of_latch n)) second at_k)

  pub one_cell : (latch : ℕ) (a b : Work) (j k : ℕ) → latch_of a ≡ Some latch → latch_of b ≡ Some latch → IsAt (works netlist) j a → IsAt (works netlist) k b → j ≡ k
  one_cell latch a b j k has_a has_b at_j at_k =
      by_works latch a b j k has_a has_b at_j at_k (is_work netlist a (at_in (works netlist) j a at_j)) (is_work netlist b (at_in (works netlist) k b at_k))

  -- the cell of a latch
  pub record LatchCell (latch : ℕ) : Type 0 where
    pub number : ℕ
    pub work : Work
    pub stands : IsAt (works netlist) number work
    pub has : latch_of work ≡ Some latch

  pub latch_cell : (place : ℕ) (latch : Latch) → IsAt netlist.latches place latch → LatchCell place
  latch_cell place latch at =
      let made = latch_work netlist place latch at in
      let there = place_in (works netlist) made.0 made.1 in
      record { number = there.0; work = made.0; stands = there.1; has = made.2 }
