use Rattle.std.proofs.Common.{◌≡◌, take, sum_by}
use Rattle.fab_kinds.specs.Pins.{bit_count}
use Rattle.fab_model.specs.inner.Numbering.{laid_bels}
use Rattle.fab_model.proofs.fields.bel_fields_of.Given as goal

abbrev pub invariant-loop-bel : goal.invariant-loop-bel
invariant-loop-bel l = record {
  low : l.low ≡ sum_by (λ bel. bit_count bel.kind) (take l.bel-index l.bels);
  fields : l.fields.items ≡ laid_bels 0 (take l.bel-index l.bels);
}
