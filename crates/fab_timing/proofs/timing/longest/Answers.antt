use Rattle.std.proofs.Common.{◌≡◌, ◌<◌, ◌∙◌, ℕ, List, All, Option, length, ap, sym, subst}
use Rattle.std.proofs.lemmas.Result.{IfOk-weaker}
use Rattle.fab_fabric.specs.Fabric.{wire_count}
use Rattle.fab_timing.specs.Walks.{Stop}
use Rattle.fab_timing.specs.inner.Design.{EndsAre}
use Rattle.fab_timing.specs.inner.Tables.{plain_steps, sum_at}
use Rattle.fab_timing.specs.inner.Arrivals.{IsLatest}
use Rattle.fab_timing.proofs.Ranked.{given_made, given_ranked}
use Rattle.fab_timing.proofs.Walks.{path_is_longest}
use Rattle.fab_timing.proofs.timing.longest.Goals as goal

pub steps_of-requires-clause-made : goal.steps_of-requires-clause-made
steps_of-requires-clause-made c = given_made c.args.packed.now c.requires.packs

pub ends_of-requires-clause-made : goal.ends_of-requires-clause-made
ends_of-requires-clause-made c = given_made c.args.packed.now c.requires.packs

pub settle_all-requires-clause-ranked : goal.settle_all-requires-clause-ranked
settle_all-requires-clause-ranked c =
    given_ranked c.args.fabric.now c.args.packed.now c.args.legal.now (plain_steps c.in_ok-steps.steps) c.is_well_made.ensures.are_tiles c.requires.packs c.requires.legal c.in_ok-steps.ensures.steps

pub longest_in-requires-clause-ends : goal.longest_in-requires-clause-ends
longest_in-requires-clause-ends c =
    let count : length c.deref-2.result.now ≡ wire_count c.args.fabric.now = ap length c.deref-2.ensures.value ∙ c.in_ok-sums.ensures.len ∙ c.in_ok-steps.ensures.count in
    subst (λ (n : ℕ). All (λ (end : ℕ × ℕ). end.0 < n) c.deref.result.now) (sym count)
    (subst (All (λ (end : ℕ × ℕ). end.0 < wire_count c.args.fabric.now)) (sym c.deref.ensures.value) c.in_ok-ends.ensures.within)

pub returns-clause-longest : goal.returns-clause-longest
returns-clause-longest c =
    let fabric = c.args.fabric.now in
    let packed = c.args.packed.now in
    let implementation = c.args.legal.now in
    let steps = plain_steps c.in_ok-steps.steps in
    let ends = subst (EndsAre fabric packed implementation) (sym c.deref.ensures.value) c.in_ok-ends.ensures.ends in
    let all = subst (λ (sums : List (Option ℕ)). (node : ℕ) → IsLatest steps node (sum_at sums node)) (sym c.deref-2.ensures.value) c.in_ok-sums.ensures.latest in
    IfOk-weaker c.longest_in.result _ _
    (λ path is. path_is_longest fabric packed implementation steps c.in_ok-steps.ensures.steps c.deref.result.now ends (sum_at c.deref-2.result.now) all path is) c.longest_in.ensures.path

pub returns-clause-stops : goal.returns-clause-stops
returns-clause-stops c =
    IfOk-weaker c.longest_in.result _ _
    (λ path is. subst (λ (n : ℕ). All (λ (stop : Stop). stop.0.0 < n) path.stops) c.in_ok-steps.ensures.count is) c.longest_in.ensures.stops
