use Rattle.std.proofs.Common.{rules, tests, ◌∙◌, eqb}
use Rattle.std.proofs.lemmas.Iterator.Consumers.{YieldsList-at, YieldsList-end}
use Rattle.std.proofs.lemmas.Iterator.Splits.{YieldsList-from_slice_split}
use Rattle.fab_paths.proofs.resolving.segments.Goals as goal

pub returns : goal.returns
returns c =
    let all = YieldsList-end (YieldsList-at c.into_iter-segment-iterator.ensures.into_iter_gives (YieldsList-from_slice_split _ (λ byte. eqb byte 47) c.args.path.now c.split-segment-items.ensures.rest c.split-segment-items.ensures.done c.split-segment-items.ensures.closure (λ x b q k. search (rules, tests)))) c.loop-segment.yielded c.loop-segment.segment-iterator c.loop-segment.yielded_by c.next.result c.next.new.self c.in-None.is c.next.ensures.steps in
    c.loop-segment.invariant ∙ all.0
