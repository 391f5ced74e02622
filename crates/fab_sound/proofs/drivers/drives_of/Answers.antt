use Rattle.std.proofs.Common.{◌≡◌, get_or, arith, rules}
use Rattle.fab_sound.specs.inner.Checks.{library_text}
use Rattle.fab_sound.proofs.Driven.{item_drives, item_holds}
use Rattle.fab_sound.proofs.drivers.drives_of.Goals as goal

pub loop-item-preserved : goal.loop-item-preserved
loop-item-preserved c =
    let item : c.item-item.result ≡ get_or c.args.items.now c.loop-item.item-index c.item-item.result = search rules in
    record {
      driven = λ other. omega (
        arith,
        item_drives (library_text c.args.library.now) c.args.items.now c.loop-item.item-index c.item-item.result c.loop-item-test.true item other,
        c.in_ok-count_drives.ensures other,
        c.loop-item.invariant.driven other,
      );
      held = λ other. omega (
        arith,
        item_holds (library_text c.args.library.now) c.args.items.now c.loop-item.item-index c.item-item.result c.loop-item-test.true item other,
        c.in_ok-count_holds.ensures other,
        c.loop-item.invariant.held other,
      );
    }
