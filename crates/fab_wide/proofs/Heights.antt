-- No cycle arises where covers are split.
use Rattle.std.proofs.Common.{◌≡◌, ℕ, suc, ◌+◌, ◌*◌, ◌<◌, ◌≤◌, Bool, true, List, [], ◌∷◌, length, Contains, nat_eq, if◌then◌else◌, refl, sym, ap, ◌∙◌, subst, inl, inr, arith}
use Rattle.std.specs.List.{list_any}
use Rattle.std.proofs.lemmas.Bool.{cases_Bool}
use Rattle.fab_netlist.specs.Plain.{PlainCover, PlainNetlist, no_cover, cover_at}
use Rattle.fab_netlist.specs.WellMade.{IsWired, cover_outputs}
use Rattle.fab_netlist.specs.Cycles.{IsRank, HasNoCycle}
use Rattle.fab_netlist.proofs.Levels.{level, levels_fall}
use Rattle.fab_netlist.proofs.Meaning.{covers_once, output_small}
use Rattle.fab_netlist.proofs.Members.{in_none, first_in, later_in, mapped_in, number_any, any_number}
use Rattle.fab_netlist.proofs.Packs.{stands, from_mapped}
use Rattle.fab_netlist.proofs.Ranks.{rank_no_cycle, no_cycle_rank}
use Rattle.fab_wide.specs.Split.{taken_by, parts, all_parts, split_of}
use Rattle.fab_wide.specs.Laws.{SplitKeepsOrder}
use Rattle.fab_wide.proofs.Falls.{Falls, FallsAt, LevelsFrom, both_hold, falls_alike, narrow_levels, narrow_below}
use Rattle.fab_wide.proofs.Runs.{input_below}

-- covers of so many nets, of at most 16 inputs each
record AreWide (nets : ℕ) (covers : List PlainCover) : Type 0 where
  pub outputs : (cover : PlainCover) → Contains covers cover → cover.output < nets
  pub inputs : (cover : PlainCover) → Contains covers cover → (net : ℕ) → Contains cover.inputs net → net < nets
  pub few : (cover : PlainCover) → Contains covers cover → length cover.inputs ≤ 16

rest_wide : (nets : ℕ) (cover : PlainCover) (covers : List PlainCover) → AreWide nets (cover ∷ covers) → AreWide nets covers
rest_wide nets cover covers wide = record {
  outputs = λ c here. wide.outputs c (later_in cover covers c here);
  inputs = λ c here. wide.inputs c (later_in cover covers c here);
  few = λ c here. wide.few c (later_in cover covers c here);
}

-- ---- levels of all parts

module _ (nets : ℕ) (level_of : ℕ → ℕ) where
  -- old nets stand 17 apart, so there is room for the parts of a cover of at most 16 inputs
  abbrev spread : ℕ → ℕ
  spread net = 17 * suc (level_of net)

  parts_levels : (covers : List PlainCover) (fresh : ℕ) (next : ℕ → ℕ) → AreWide nets covers → Falls level_of covers → nets ≤ fresh →
      ((net : ℕ) → net < nets → next net ≡ spread net) →
      LevelsFrom fresh next (all_parts covers fresh)
  parts_levels [] fresh next wide falls few same = record { all = next; old = λ net small. refl; falls = λ cover here. absurd (in_none cover here) }
  parts_levels (cover ∷ covers) fresh next wide falls few same =
      let here = first_in cover covers cover refl in
      let base = 17 * level_of cover.output in
      let low : (net : ℕ) → Contains cover.inputs net → (net < fresh) × (next net ≤ base) =
      λ net reads. (
        omega (arith, few, wide.inputs cover here net reads),
        omega (arith, same net (wide.inputs cover here net reads), falls cover here net reads),
      ) in
      let old : cover.output < fresh = omega (arith, few, wide.outputs cover here) in
      let above : base + length cover.inputs < next cover.output = omega (arith, wide.few cover here, same cover.output (wide.outputs cover here)) in
      let first = narrow_levels cover.line cover.inputs base (length cover.inputs) cover.table cover.output fresh next (omega arith) old above low in
      let later = taken_by cover + fresh in
      let rest = parts_levels covers later first.all (rest_wide nets cover covers wide) (λ c among. falls c (later_in cover covers c among))
      (omega (arith, few))
      (λ net small. first.old net (omega (arith, small, few)) ∙ same net small) in
      let below = narrow_below cover.line cover.inputs (length cover.inputs) cover.table cover.output fresh (omega arith) old
      (λ net reads. (low net reads).0) in
      record {
        all = rest.all;
        old = λ net small. rest.old net (omega (arith, small)) ∙ first.old net small;
        falls = both_hold (FallsAt rest.all) (parts cover fresh) (all_parts covers later) (λ c among. falls_alike first.all rest.all later c rest.old
            (below c among) (first.falls c among)) rest.falls;
      }

-- ---- levels and ranks

-- nets that no cover drives are lowest
module _ (netlist : PlainNetlist) (wiring : IsWired netlist) (rank : ℕ → ℕ) (ranks : IsRank netlist rank) where
  abbrev drives : ℕ → Bool
  drives net = list_any (λ other. nat_eq other net) (cover_outputs netlist.covers)

  abbrev inner : ℕ → ℕ
  inner net = level netlist (covers_once netlist wiring) rank ranks net

  abbrev level_by : ℕ → ℕ
  level_by net = if drives net then suc (inner net) else 0

  level_driven : (cover : PlainCover) → Contains netlist.covers cover → level_by cover.output ≡ suc (inner cover.output)
  level_driven cover here =
      let driven : drives cover.output ≡ true = number_any (cover_outputs netlist.covers) cover.output
      (mapped_in (λ (c : PlainCover). c.output) netlist.covers cover here) in
      rw driven refl

  levels_by : Falls level_by netlist.covers
  levels_by cover here net reads =
      elim (cases_Bool (drives net)) [
        | inr other ↦ (let none : level_by net ≡ 0 = rw other refl in omega (arith, none, level_driven cover here))
        | inl driven ↦ (
            let (source, among, is) = from_mapped (λ (c : PlainCover). c.output) netlist.covers net (any_number (cover_outputs netlist.covers) net driven) in
            let reads_it : Contains cover.inputs source.output = subst (λ (other : ℕ). Contains cover.inputs other) (sym is) reads in
            let less = levels_fall netlist (covers_once netlist wiring) rank ranks cover source here among reads_it in
            omega (arith, less, level_driven cover here, level_driven source among, ap level_by is))
      ]

-- covers with falling levels have no cycle
falling_no_cycle : (netlist : PlainNetlist) (level_of : ℕ → ℕ) → Falls level_of netlist.covers → HasNoCycle netlist
falling_no_cycle netlist level_of falls =
    rank_no_cycle netlist (
      (λ place. level_of (cover_at netlist place).output),
      λ reader source (reader_in, source_in, reads). falls (cover_at netlist reader)
          (stands netlist.covers reader no_cover reader_in) (cover_at netlist source).output reads,
    )

pub split_keeps_order : SplitKeepsOrder
split_keeps_order netlist wiring few acyclic =
    let (rank, ranks) = no_cycle_rank netlist acyclic in
    let level_of = level_by netlist wiring rank ranks in
    let wide : AreWide (length netlist.nets) netlist.covers = record {
      outputs = output_small netlist wiring;
      inputs = input_below netlist wiring;
      few = few;
    } in
    let made = parts_levels (length netlist.nets) level_of netlist.covers (length netlist.nets) (λ net. 17 * suc (level_of net)) wide
    (levels_by netlist wiring rank ranks) (omega arith) (λ net small. refl) in
    falling_no_cycle (split_of netlist) made.all made.falls
