use Rattle.std.proofs.Common.{ℕ, List, ◌*◌, map, get_or, ap, ◌∙◌, arith}
use Rattle.fab_route.specs.declared.classes.Place.{Place}
use Rattle.fab_route.specs.inner.Guided.{spot_of}
use Rattle.fab_route.specs.Plain.{graph_of}
use Rattle.fab_route.proofs.Guiding.{is_bound, ends_inside}
use Rattle.fab_route.proofs.bounds.Bounds.new.Goals as goal

pub returns : goal.returns
returns c =
    is_bound c.args.fabric.now c.of-window.result (graph_of c.args.nodes.now) c.in_ok-places.places.items (c.class_count-classes.result * 4096)
    (record { spots = c.in_ok-spots.spots.items; aims = c.in_ok-aims.aims.items; entries = c.in_ok-entries.entries.items }) c.of-window.ensures.columns c.of-window.ensures.rows c.in_ok-places.ensures.long
    (ends_inside (graph_of c.args.nodes.now) c.requires.nodes.is_graph) (c.in_ok-spots.ensures ∙ ap (λ (ps : List Place). map spot_of ps) c.deref-2.ensures.value) c.in_ok-aims.ensures c.in_ok-entries.ensures
    (λ k. omega (arith, ap (λ (ns : List ℕ). get_or ns k 0) c.deref-4.ensures.value, c.are_bytes.ensures k))
