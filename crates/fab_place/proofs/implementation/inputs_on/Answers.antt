use Rattle.std.proofs.Common.{◌+◌, ◌++◌, ◌∷◌, [], ℕ, List, ◌∙◌, ap}
use Rattle.fab_implementation.specs.Plain.{Pad}
use Rattle.fab_place.specs.Standing.{site_at}
use Rattle.fab_place.proofs.Listed.{numbered_map_more}
use Rattle.fab_place.proofs.implementation.inputs_on.Goals as goal

pub loop-number-preserved : goal.loop-number-preserved
loop-number-preserved c =
    let n = c.loop-number.number in
    let line : ℕ × List ℕ → Pad = λ input. (input.1, site_at c.args.sites.now c.args.numbers.now (c.args.first + input.0)) in
    numbered_map_more c.loop-number.lines.items c.push.new.self.items line c.args.inputs.now n c.index-inputs-number.result c.loop-number-test.true c.loop-number.invariant
    (c.in_ok-push.ensures.items ∙ ap (λ (name : List ℕ). c.loop-number.lines.items ++ (name, site_at c.args.sites.now c.args.numbers.now (c.args.first + n)) ∷ []) (c.in_ok-copy.ensures ∙ c.index-inputs-number.is))
