use Rattle.std.proofs.Common.{rules, ◌≡◌, true, is_some}
use Rattle.fab_timing.specs.inner.Passes.{IsListed}
use Rattle.fab_timing.proofs.Passes.{some_latch, start_added}
use Rattle.fab_timing.proofs.ends.put_start.Goals as goal

pub returns-in_ok-put_pin : goal.returns-in_ok-put_pin
returns-in_ok-put_pin c =
    let cell = c.args.cell.now in
    let there : is_some cell.latch ≡ true = search rules in
    let latch = some_latch cell.latch there in
    start_added c.args.fabric.now c.args.site cell (IsListed c.args.starts.now.items) latch.0 (IsListed c.put_pin.new.pins.items) latch.1 c.in_ok-put_pin.ensures
