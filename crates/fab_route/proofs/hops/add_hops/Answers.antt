use Rattle.std.proofs.Common.{ℕ, List, get_or, take, subst}
use Rattle.std.specs.List.{All}
use Rattle.std.proofs.lemmas.List.{take_all}
use Rattle.std.proofs.lemmas.List.Elements.{All-more}
use Rattle.fab_route.specs.declared.classes.Place.{Place}
use Rattle.fab_route.specs.inner.Guided.{HasHop, place_at}
use Rattle.fab_route.proofs.Hopping.{keeps_on, all_kept, place_read}
use Rattle.fab_route.proofs.hops.add_hops.Goals as goal

pub loop-end-preserved : goal.loop-end-preserved
loop-end-preserved c =
    let end = get_or c.args.ends.now c.loop-end.end-index 0 in
    record {
      kept = keeps_on c.args.hops.now.items c.loop-end.hops.items c.add_hop.new.hops.items c.loop-end.invariant.kept c.in_ok-add_hop.ensures.kept;
      added = All-more (λ (end : ℕ). HasHop c.add_hop.new.hops.items c.args.from (place_at c.args.places.now.items end)) c.args.ends.now c.loop-end.end-index 0 c.loop-end-test.true
          (all_kept c.loop-end.hops.items c.add_hop.new.hops.items c.args.from c.args.places.now.items (take c.loop-end.end-index c.args.ends.now) c.in_ok-add_hop.ensures.kept c.loop-end.invariant.added)
          (subst (λ (to : Place). HasHop c.add_hop.new.hops.items c.args.from to)
          (place_read c.args.places.now.items end c.index.result.now (c.requires.ends c.loop-end.end-index 0 c.loop-end-test.true) c.index.ensures) c.in_ok-add_hop.ensures.added);
    }

pub returns-clause-added : goal.returns-clause-added
returns-clause-added c =
    subst (λ (ends : List ℕ). All (λ (end : ℕ). HasHop c.loop-end.hops.items c.args.from (place_at c.args.places.now.items end)) ends) (take_all c.loop-end.end-index c.args.ends.now c.loop-end-test.false) c.loop-end.invariant.added
