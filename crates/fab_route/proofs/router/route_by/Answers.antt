use Rattle.std.proofs.Common.{List, length, Option, IfSome, sym, ◌∙◌, subst}
use Rattle.std.specs.List.{All}
use Rattle.std.proofs.lemmas.Option.{IfSome_then}
use Rattle.std.proofs.lemmas.Result.{IfOk-weaker}
use Rattle.fab_implementation.specs.Plain.{Pad, PlainTree}
use Rattle.fab_legal.specs.Legal.{IsLegal}
use Rattle.fab_legal.specs.Lines.{ConstraintsHold}
use Rattle.fab_pathfinder.specs.declared.net.Net.{Net}
use Rattle.fab_pathfinder.specs.Plain.{nets_of, IsInside}
use Rattle.fab_ways_laws.specs.Mapping.{AreRouted}
use Rattle.fab_ways_laws.specs.Trees.{with_trees}
use Rattle.fab_ways_laws.proofs.Legal.{unshared_is_legal}
use Rattle.fab_route.specs.Plain.{graph_of}
use Rattle.fab_route.specs.inner.Told.{IsNodeRun}
use Rattle.fab_route.specs.declared.router.Routed.{Routed}
use Rattle.fab_route.proofs.router.route_by.Goals as goal

pub run_by-requires-clause-nets : goal.run_by-requires-clause-nets
run_by-requires-clause-nets g c =
    subst (λ (ns : List Net). All (IsInside (graph_of c.in_ok-nodes.nodes).nodes) ns) (sym c.deref-2.ensures.value) c.in_ok-nets.ensures.inside

pub returns-in-Err-clause-fault : goal.returns-in-Err-clause-fault
returns-in-Err-clause-fault g c = c.no_path.ensures c.args.rounds

pub tell_found-requires-clause-run : goal.tell_found-requires-clause-run
tell_found-requires-clause-run g c =
    subst (λ (ns : List Net). IsNodeRun (graph_of c.in_ok-nodes.nodes) (nets_of ns) (length c.in-Ok.run'.rounds.items) c.in-Ok.run') (c.deref-2.ensures.value ∙ sym c.deref-in-Ok.ensures.value) (rw c.in-Ok.is at c.in_ok-cut.ensures.run)

pub tell_found-requires-clause-few : goal.tell_found-requires-clause-few
tell_found-requires-clause-few g c = rw c.in-Ok.is at c.in_ok-cut.ensures.few

pub tell_found-requires-clause-all : goal.tell_found-requires-clause-all
tell_found-requires-clause-all g c = λ patient. rw c.in-Ok.is at (c.in_ok-cut.ensures.all patient)

pub returns-clause-legal : goal.returns-clause-legal
returns-clause-legal g c =
    IfOk-weaker c.tell_found.result (λ (found : Option Routed). IfSome found (λ (routed : Routed). AreRouted c.args.fabric.now c.args.packed.now c.args.placed.now c.args.rounds routed.trees.items))
    (λ (found : Option Routed). IfSome found (λ (routed : Routed). (fixed : List Pad) → ConstraintsHold fixed c.args.placed.now → IsLegal c.args.fabric.now c.args.packed.now fixed (with_trees c.args.placed.now routed.trees.items)))
    (λ found are. IfSome_then found are (λ routed is. λ fixed holds.
    subst (λ (trees : List PlainTree). IsLegal c.args.fabric.now c.args.packed.now fixed (with_trees c.args.placed.now trees)) (sym is.trees_are)
    (unshared_is_legal c.args.fabric.now c.args.packed.now fixed c.args.placed.now is.rounds is.last c.requires.made c.requires.placed holds is.run is.some_rounds is.unshared)))
    c.tell_found.ensures.routed
