use Rattle.fab_legal.proofs.Lists.{at_read}
use Rattle.fab_timing.specs.inner.Passes.{IsListed, IsPinOf}
use Rattle.fab_timing.proofs.Added.{item_added, all_added}
use Rattle.fab_timing.proofs.ends.put_pads.Goals as goal

pub loop-site-preserved : goal.loop-site-preserved
loop-site-preserved c =
    let pad = c.loop-site-item.result in
    let at = at_read c.args.pads.now c.loop-site.site-index pad c.loop-site-test.true c.loop-site-item.is in
    item_added (IsPinOf c.args.fabric.now c.args.pin c.args.units) c.args.pads.now c.loop-site.site-index pad (IsListed c.args.pins.now.items) (IsListed c.loop-site.pins.items)
    (IsListed c.put_pin.new.pins.items) at.0 at.1 c.loop-site.invariant c.in_ok-put_pin.ensures

pub returns : goal.returns
returns c =
    all_added (IsPinOf c.args.fabric.now c.args.pin c.args.units) c.args.pads.now c.loop-site.site-index (IsListed c.args.pins.now.items) (IsListed c.loop-site.pins.items) c.loop-site-test.false
    c.loop-site.invariant
