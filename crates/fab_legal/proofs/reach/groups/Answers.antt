use Rattle.std.proofs.Common.{◌<◌, ◌++◌, ◌∷◌, [], List, ℕ, get_or, length, sym, ap, ◌∙◌, arith}
use Rattle.std.proofs.lemmas.List.{length-set}
use Rattle.fab_implementation.specs.Plain.{Edge}
use Rattle.fab_legal.specs.inner.Tables.{left_number, entered_number}
use Rattle.fab_legal.proofs.Lists.{at_default}
use Rattle.fab_legal.proofs.ReachSearch.{found_place, no_place, group_read, groups_more, number_place, left_in}
use Rattle.fab_legal.proofs.reach.groups.Goals as goal

pub unreachable-requires : goal.unreachable-requires
unreachable-requires c =
    let none : Edge = (record { 0 = 0 }, record { 0 = 0 }) in
    let edge = get_or c.args.edges.now c.loop-edge.edge-index none in
    let at = at_default c.args.edges.now c.loop-edge.edge-index none c.loop-edge-test.true in
    let here = left_in c.args.edges.now c.args.lefts.now.keys c.requires edge (c.loop-edge.edge-index, at.0, at.1) in
    let past = no_place c.args.lefts.now.keys (left_number edge) (sym c.in-None.is ∙ c.get_index_of.ensures.index) in
    omega (arith, past, number_place c.args.lefts.now.keys (left_number edge) here)

pub loop-edge-preserved : goal.loop-edge-preserved
loop-edge-preserved c =
    let none : Edge = (record { 0 = 0 }, record { 0 = 0 }) in
    let edge = get_or c.args.edges.now c.loop-edge.edge-index none in
    let at = at_default c.args.edges.now c.loop-edge.edge-index none c.loop-edge-test.true in
    let place = found_place c.args.lefts.now.keys (left_number edge) c.in-Some.place (sym c.in-Some.is ∙ c.get_index_of.ensures.index) in
    let inside : c.in-Some.place < length c.loop-edge.groups.items = omega (arith, place.1, c.loop-edge.invariant.len) in
    let old = group_read c.loop-edge.groups.items c.in-Some.place c.index_mut.result.now inside c.index_mut.ensures.value in
    record {
      len = length-set c.loop-edge.groups.items c.in-Some.place c.push.new.self ∙ c.loop-edge.invariant.len;
      groups = groups_more c.args.lefts.now.keys c.loop-edge.groups.items c.push.new.self c.args.edges.now c.loop-edge.edge-index c.in-Some.place edge at place.0 inside
          (c.in_ok-push-in-Some.ensures.items ∙ ap (λ (l : List ℕ). l ++ entered_number edge ∷ []) old) c.loop-edge.invariant.groups;
    }
