use Rattle.std.proofs.Common.{rules, ◌≡◌, ℕ, true, is_some, length, subst}
use Rattle.std.proofs.lemmas.Result.{on_ok_weaker}
use Rattle.fab_timing.specs.inner.Adding.{Adds, AddedBelow}
use Rattle.fab_timing.specs.inner.Passes.{IsListed, IsPin, TimedPin}
use Rattle.fab_timing.proofs.Passes.{some_latch, end_added}
use Rattle.fab_timing.proofs.ends.put_end.Goals as goal

pub returns : goal.returns
returns c =
    let fabric = c.args.fabric.now in
    let site = c.args.site in
    let cell = c.args.cell.now in
    let there : is_some cell.latch ≡ true = search rules in
    let latch = some_latch cell.latch there in
    let many : c.len.result ≡ length cell.inputs = search rules in
    let Was : TimedPin → Type 0 = IsListed c.args.ends.now.items in
    let Pins : TimedPin → Type 0 = IsListed c.put_pins.new.ends.items in
    let first = subst (λ (n : ℕ). Adds (AddedBelow (IsPin fabric site 7) n) Was Pins) many c.in_ok-put_pins.ensures in
    on_ok_weaker c.put_pin.result (λ second. end_added fabric site cell Was latch.0 Pins (IsListed c.put_pin.new.pins.items) latch.1 first second) c.put_pin.ensures
