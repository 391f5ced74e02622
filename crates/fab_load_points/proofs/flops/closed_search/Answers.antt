use Rattle.std.proofs.Common.{◌≡◌, true, List, sym, subst}
use Rattle.fab_syntax.specs.Plain.{plain_text}
use Rattle.fab_load_points.specs.inner.Flops.{among, AreLoaderFlops, HoldsClosed}
use Rattle.fab_load_points.specs.declared.flops.Flop.{Flop}
use Rattle.fab_load_points.proofs.Rounds.{loaders_reversed, holds_reversed}
use Rattle.fab_load_points.proofs.flops.closed_search.Goals as goal

pub kept_flops-requires-clause-holds : goal.kept_flops-requires-clause-holds
kept_flops-requires-clause-holds c some closed p declared f =
    let text = plain_text c.args.equations.now in
    subst (λ (xs : List Flop). among text xs p ≡ true) (sym c.deref-in-rounds.ensures.value) (c.rounds.invariant.holds some closed p declared f)

pub rounds-preserved : goal.rounds-preserved
rounds-preserved c =
    let text = plain_text c.args.equations.now in
    let kept = c.in_ok-kept.kept.items in
    record {
      flops = subst (AreLoaderFlops text) (sym c.reverse.ensures.items) (loaders_reversed text kept c.in_ok-kept.ensures.flops);
      holds = subst (λ (xs : List Flop). HoldsClosed text (among text xs)) (sym c.reverse.ensures.items) (holds_reversed text kept c.in_ok-kept.ensures.holds);
    }
