use Rattle.std.proofs.Common.{sym, ap, ◌∙◌, arith, get_or}
use Rattle.std.proofs.lemmas.Bool.{false≢true}
use Rattle.std.proofs.lemmas.Option.{slice_get-get_or, slice_get_within}
use Rattle.fab_network.specs.declared.network.Source.{Source}
use Rattle.fab_network.specs.Network.{AreBeside}
use Rattle.fab_phases.proofs.Grouping.{beside_more, first_differs}
use Rattle.fab_phases.proofs.Ticking.{no_flop}
use Rattle.fab_phases.proofs.flop_groups.together.Goals as goal

pub returns-then-not-is_beside : goal.returns-then-not-is_beside
returns-then-not-is_beside c =
    let test = c.loop-place-test.true in
    record {
      within = omega arith;
      front = c.loop-place.invariant;
      first = λ flop e same.
          first_differs c.args.flops.now c.loop-place.place (get_or c.args.flops.now c.loop-place.place no_flop) flop c.args.next
          (slice_get-get_or c.args.flops.now c.loop-place.place no_flop test) e same
          (λ here.
          let beside : AreBeside (get_or c.args.flops.now c.loop-place.place no_flop).next c.args.next =
          record { tree = ap (λ (source : Source). source.tree) here; first = ap (λ (source : Source). source.first) here } in
          false≢true (sym c.if-not-is_beside.true ∙ c.is_beside.ensures.found beside));
    }

pub loop-place-preserved : goal.loop-place-preserved
loop-place-preserved c =
    beside_more c.args.next c.args.flops.now c.loop-place.place (get_or c.args.flops.now c.loop-place.place no_flop)
    (slice_get-get_or c.args.flops.now c.loop-place.place no_flop c.loop-place-test.true) (c.is_beside.ensures.beside c.if-not-is_beside.false) c.loop-place.invariant

pub returns : goal.returns
returns c = record {
  within = omega arith;
  front = λ place flop less e. let inside = slice_get_within c.args.flops.now place flop e in c.loop-place.invariant place flop (omega arith) e;
  first = λ flop e same. slice_get_within c.args.flops.now 0 flop e;
}
