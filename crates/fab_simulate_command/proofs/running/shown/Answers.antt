use Rattle.std.proofs.Common.{◌≡◌, ◌∙◌, ◌++◌, length, map, take, drop, sym, ap}
use Rattle.std.proofs.Math.Seq.{take-append_seam}
use Rattle.fab_ternary.specs.Terns.{plain_tern}
use Rattle.fab_simulate_command.proofs.running.shown.Goals as goal

pub returns : goal.returns
returns c = λ text state held next shown at cycle.
    let new = c.cycle.new.outputs in
    let old = c.in_ok-outputs.outputs in
    let long : length new ≡ old.len = c.cycle.auto.outputs ∙ c.deref_mut.ensures.len in
    let whole : take old.len (new ++ drop (length new) old.items) ≡ new = ap (λ n. take n (new ++ drop (length new) old.items)) (sym long) ∙ take-append_seam new (drop (length new) old.items) in
    let says = c.cycle.ensures text state held next shown at cycle in
    (ap (map plain_tern) whole ∙ says.0, says.1)
