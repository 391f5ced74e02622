use Rattle.std.proofs.Common.{ap, ◌∙◌, sym, inl, inr, slice_index, slice_set, arith}
use Rattle.std.proofs.lemmas.Bool.{cases_eq}
use Rattle.std.specs.List.{range_with_len}
use Rattle.fab_demand.proofs.Lists.{numbered, set_index_other, set_index_same}
use Rattle.fab_demand.proofs.search.number.Goals as goal

pub loop-point-preserved : goal.loop-point-preserved
loop-point-preserved c k l =
    let here = c.loop-point.point in
    elim (cases_eq k here) [
      | inl e ↦ ap (slice_index (slice_set c.loop-point.leads here here)) e
          ∙ set_index_same c.loop-point.leads here here (omega (arith, c.loop-point-test.true, c.loop-point.auto.leads)) ∙ sym e
      | inr n ↦ set_index_other c.loop-point.leads here here k n ∙ c.loop-point.invariant k (omega (arith, l, n))
    ]

pub returns : goal.returns
returns c =
    numbered c.loop-point.leads (λ k l. c.loop-point.invariant k (omega (arith, l, c.loop-point.auto.leads, c.loop-point-test.false)))
    ∙ ap (range_with_len 0) c.loop-point.auto.leads
