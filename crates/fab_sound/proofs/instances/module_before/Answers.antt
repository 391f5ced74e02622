use Rattle.std.proofs.Common.{sym}
use Rattle.fab_sound.proofs.Places.{before_none, before_late, gotten}
use Rattle.fab_sound.proofs.instances.module_before.Goals as goal

pub returns-then-number-count : goal.returns-then-number-count
returns-then-number-count c =
    gotten c.args.library.now c.requires c.args.name.now c.args.count c.in-Some.number c.get.result c.deref.result.now (sym c.in-Some.ensures) c.if-number-count.true c.deref.ensures.value
    c.get.ensures.lookup.3

pub returns-else-number-count : goal.returns-else-number-count
returns-else-number-count c = before_late c.args.library.now c.requires c.args.name.now c.args.count c.in-Some.number (sym c.in-Some.ensures) c.if-number-count.false

pub returns-in-None : goal.returns-in-None
returns-in-None c = before_none c.args.library.now c.requires c.args.name.now c.args.count (sym c.in-None.ensures)
