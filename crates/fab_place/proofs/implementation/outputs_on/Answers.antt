use Rattle.std.proofs.Common.{◌+◌, ◌++◌, ◌∷◌, [], ℕ, List, ◌∙◌, ap}
use Rattle.fab_netlist.specs.declared.net_id.NetId.{NetId}
use Rattle.fab_implementation.specs.Plain.{Pad}
use Rattle.fab_place.specs.Standing.{site_at}
use Rattle.fab_place.proofs.Listed.{numbered_map_more}
use Rattle.fab_place.proofs.implementation.outputs_on.Goals as goal

pub loop-number-preserved : goal.loop-number-preserved
loop-number-preserved c =
    let n = c.loop-number.number in
    let line : ℕ × (List ℕ × NetId) → Pad = λ output. (output.1.0, site_at c.args.sites.now c.args.numbers.now (c.args.first + output.0)) in
    numbered_map_more c.loop-number.lines.items c.push.new.self.items line c.args.outputs.now n c.index-outputs-number.result c.loop-number-test.true c.loop-number.invariant
    (c.in_ok-push.ensures.items ∙ ap (λ (name : List ℕ). c.loop-number.lines.items ++ (name, site_at c.args.sites.now c.args.numbers.now (c.args.first + n)) ∷ []) (c.in_ok-copy.ensures ∙ ap (λ (output : List ℕ × NetId). output.0) c.index-outputs-number.is))
