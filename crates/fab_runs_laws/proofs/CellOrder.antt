-- Cells without latches have the order of their covers.
use Rattle.std.proofs.Common.{◌≡◌, ℕ, ◌<◌, get_or, map, Contains, Some, None, refl, sym, ap, ◌∙◌, subst, inl, inr, arith}
use Rattle.std.proofs.lemmas.List.{get_or_default}
use Rattle.fab_netlist.specs.declared.net_id.NetId.TheVariants as ids
use Rattle.fab_netlist.specs.Plain.{PlainCover, PlainNetlist, IsAt}
use Rattle.fab_netlist.specs.WellMade.{IsWellMade}
use Rattle.fab_netlist.specs.Cycles.{HasNoCycle}
use Rattle.fab_netlist.specs.Packed.{PlainCell}
use Rattle.fab_netlist.specs.Packing.{Work, of_cover, of_latch, works, output_of, net_of, cell_of, packed}
use Rattle.fab_netlist.proofs.Members.{at_in}
use Rattle.fab_netlist.proofs.Ranks.{no_cycle_rank}
use Rattle.fab_netlist.proofs.Levels.{level, levels_fall}
use Rattle.fab_netlist.proofs.Wired.{wired}
use Rattle.fab_netlist.proofs.Meaning.{covers_once}
use Rattle.fab_netlist.proofs.Packs.{from_mapped}
use Rattle.fab_points_laws.proofs.fab_legal_Lists.{same_at, at_from_mapped}
use Rattle.fab_netlist.proofs.Works.{nowhere_or_first, is_work}

module _ (netlist : PlainNetlist) (made : IsWellMade netlist) (acyclic : HasNoCycle netlist) where
  abbrev rank_of : ℕ → ℕ
  rank_of = level netlist (covers_once netlist (wired made)) (no_cycle_rank netlist acyclic).0 (no_cycle_rank netlist acyclic).1

  abbrev work_at : ℕ → Work
  work_at k = get_or (works netlist) k (of_latch 0)

  abbrev rank : ℕ → ℕ
  rank k = rank_of (output_of netlist (work_at k))

  -- a cell without a latch is made of a cover
  record IsPlain (k : ℕ) (c : PlainCell) : Type 0 where
    cover : PlainCover
    stands : IsAt (works netlist) k (of_cover cover None)
    is : cell_of netlist (of_cover cover None) ≡ c

  plain : (k : ℕ) (c : PlainCell) → IsAt (packed netlist).cells k c → c.latch ≡ None → IsPlain k c
  plain k c at none =
      let from = at_from_mapped (cell_of netlist) (works netlist) k c at in
      by_work from.0 from.1 from.2
    where
      by_work : (work : Work) → IsAt (works netlist) k work → cell_of netlist work ≡ c → IsPlain k c
      by_work (of_cover cover None) stands is = record { cover = cover; stands = stands; is = is }
      by_work (of_cover cover (Some place)) stands is =
          absurd (let bad = ap (λ (z : PlainCell). z.latch) is ∙ none in let worse : ⊥ = cc in worse)
      by_work (of_latch place) stands is =
          absurd (let bad = ap (λ (z : PlainCell). z.latch) is ∙ none in let worse : ⊥ = cc in worse)

  -- the net of a cell is that of its work
  net_at : (net j : ℕ) → net_of netlist net ≡ ids.Cell j → (work : Work) × IsAt (works netlist) j work × (output_of netlist work ≡ net)
  net_at net j is =
      elim (nowhere_or_first net netlist.inputs) [
        | inr input ↦ absurd (let here : net_of netlist net ≡ ids.In input.0 = rw input.1 refl in let worse : ⊥ = cc in worse)
        | inl no_input ↦ elim (nowhere_or_first net (map (output_of netlist) (works netlist))) [
          | inr cell ↦ (
              let here : net_of netlist net ≡ ids.Cell cell.0 = rw (no_input.0, cell.1) refl in
              let same : cell.0 ≡ j = cc in
              at_from_mapped (output_of netlist) (works netlist) j net (subst (λ k. IsAt (map (output_of netlist) (works netlist)) k net) same cell.2))
          | inl no_cell ↦ absurd (let here : net_of netlist net ≡ ids.Zero = rw (no_input.0, no_cell.0) refl in let worse : ⊥ = cc in worse)
        ]
      ]

  rank_is : (k : ℕ) (cover : PlainCover) → IsAt (works netlist) k (of_cover cover None) → rank k ≡ rank_of cover.output
  rank_is k cover at = ap (λ w. rank_of (output_of netlist w)) (get_or_default (works netlist) k (of_latch 0) (of_cover cover None) at.0 ∙ at.1)

  pub ordered : (j k : ℕ) (c d : PlainCell) → IsAt (packed netlist).cells j c → IsAt (packed netlist).cells k d → c.latch ≡ None → d.latch ≡ None →
      Contains d.inputs (ids.Cell j) → rank j < rank k
  ordered j k c d at_j at_k none_j none_k reads =
      let source = plain j c at_j none_j in
      let reader = plain k d at_k none_k in
      let among : Contains (map (net_of netlist) reader.cover.inputs) (ids.Cell j) = subst (λ (z : PlainCell). Contains z.inputs (ids.Cell j)) (sym reader.is) reads in
      let net = from_mapped (net_of netlist) reader.cover.inputs (ids.Cell j) among in
      let work = net_at net.0 j net.2 in
      let same : work.0 ≡ of_cover source.cover None = same_at (works netlist) j work.0 (of_cover source.cover None) work.1 source.stands in
      let output : source.cover.output ≡ net.0 = ap (output_of netlist) (sym same) ∙ work.2 in
      let source_in : Contains netlist.covers source.cover = (is_work netlist (of_cover source.cover None) (at_in (works netlist) j (of_cover source.cover None) source.stands)).0 in
      let reader_in : Contains netlist.covers reader.cover = (is_work netlist (of_cover reader.cover None) (at_in (works netlist) k (of_cover reader.cover None) reader.stands)).0 in
      let falls = levels_fall netlist (covers_once netlist (wired made)) (no_cycle_rank netlist acyclic).0 (no_cycle_rank netlist acyclic).1 reader.cover source.cover reader_in source_in
      (subst (λ (n : ℕ). Contains reader.cover.inputs n) (sym output) net.1) in
      omega (arith, falls, rank_is j source.cover source.stands, rank_is k reader.cover reader.stands)

pub keeps_order : (netlist : PlainNetlist) → IsWellMade netlist → HasNoCycle netlist →
    (rank : ℕ → ℕ) × ((j k : ℕ) (c d : PlainCell) → IsAt (packed netlist).cells j c → IsAt (packed netlist).cells k d → c.latch ≡ None → d.latch ≡ None →
    Contains d.inputs (ids.Cell j) → rank j < rank k)
keeps_order netlist made acyclic = (rank netlist made acyclic, ordered netlist made acyclic)
