use Rattle.std.proofs.Common.{rules, arith, ◌≡◌, ◌<◌, ◌++◌, ◌∷◌, [], ℕ, List, All, Option, Some, length, sym, ap, subst}
use Rattle.std.proofs.lemmas.List.Elements.{All-nil, All-push}
use Rattle.fab_timing.specs.Walks.{Stop}
use Rattle.fab_timing.specs.inner.Tables.{plain_steps, sum_at}
use Rattle.fab_timing.specs.inner.Trails.{stop_at}
use Rattle.fab_timing.proofs.Trails.{IsHere, IsWay, left_of, wire_stop, here_first, way_first, here_next, way_next, way_shorter, summed_inside}
use Rattle.fab_timing.proofs.trace.walk_back.Goals as goal

pub back-init : goal.back-init
back-init c =
    let sums = c.args.sums.now in
    let steps = plain_steps c.args.steps.now in
    let end = c.args.end in
    let stops = c.args.stops.now.items in
    record {
      here = subst (λ (o : Option (ℕ × ℕ)). IsHere (sum_at sums) o) (sym c.stop_at-at.ensures) (here_first (sum_at sums) end);
      way = λ sum is.
          subst (λ (o : Option (ℕ × ℕ)). IsWay steps o stops (wire_stop (end, sum))) (sym c.stop_at-at.ensures)
          (subst (λ (list : List Stop). IsWay steps (stop_at (sum_at sums) end) list (wire_stop (end, sum))) (sym c.requires.empty) (way_first steps (sum_at sums) end sum is));
      within = subst (λ (list : List Stop). All (λ stop. stop.0.0 < length c.args.steps.now.starts.items) list) (sym c.requires.empty) (All-nil (λ (stop : Stop). stop.0.0 < length c.args.steps.now.starts.items));
    }

pub stop_before-at-requires-clause-here : goal.stop_before-at-requires-clause-here
stop_before-at-requires-clause-here c =
    let at : c.back.at ≡ Some (c.in-Some.node, c.in-Some.sum) = search rules in
    subst (λ (o : Option (ℕ × ℕ)). IsHere (sum_at c.args.sums.now) o) at c.back.invariant.here

pub back-smaller : goal.back-smaller
back-smaller c =
    let at : c.back.at ≡ Some (c.in-Some.node, c.in-Some.sum) = search rules in
    let falls = way_shorter c.args.steps.now c.requires.tables (sum_at c.args.sums.now) (c.in-Some.node, c.in-Some.sum) c.stop_before-at.result c.stop_before-at.ensures in
    let same = ap left_of at in
    omega (arith, falls, same)

pub back-preserved : goal.back-preserved
back-preserved c =
    let sums = c.args.sums.now in
    let steps = plain_steps c.args.steps.now in
    let end = c.args.end in
    let stops = c.back.stops.items in
    let node = c.in-Some.node in
    let sum = c.in-Some.sum in
    let next = c.stop_before-at.result in
    let at : c.back.at ≡ Some (node, sum) = search rules in
    let pushed : c.push.new.self.items ≡ stops ++ wire_stop (node, sum) ∷ [] = search rules in
    let here : sum_at sums node ≡ Some sum = subst (λ (o : Option (ℕ × ℕ)). IsHere (sum_at sums) o) at c.back.invariant.here in
    let low : node < length c.args.steps.now.starts.items = omega (arith, summed_inside sums node sum here, c.requires.len) in
    record {
      here = here_next steps (sum_at sums) (node, sum) next c.stop_before-at.ensures;
      way = λ last is.
          subst (λ (list : List Stop). IsWay steps next list (wire_stop (end, last))) (sym pushed)
          (way_next steps (sum_at sums) (node, sum) next stops (wire_stop (end, last)) c.stop_before-at.ensures
          (subst (λ (o : Option (ℕ × ℕ)). IsWay steps o stops (wire_stop (end, last))) at (c.back.invariant.way last is)));
      within =
          subst (λ (list : List Stop). All (λ stop. stop.0.0 < length c.args.steps.now.starts.items) list) (sym pushed)
          (All-push (λ (stop : Stop). stop.0.0 < length c.args.steps.now.starts.items) stops (wire_stop (node, sum)) c.back.invariant.within low);
    }

pub returns-clause-trail : goal.returns-clause-trail
returns-clause-trail c = λ sum is.
    subst (λ (o : Option (ℕ × ℕ)). IsWay (plain_steps c.args.steps.now) o c.back.stops.items (wire_stop (c.args.end, sum))) c.in_default.is (c.back.invariant.way sum is)
