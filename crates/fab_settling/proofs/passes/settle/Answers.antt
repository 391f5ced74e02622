use Rattle.std.proofs.Common.{refl}
use Rattle.fab_network.proofs.Forming.{no_forms}
use Rattle.fab_settling.proofs.passes.settle.Goals as goal

pub settle_by-requires-clause-forms : goal.settle_by-requires-clause-forms
settle_by-requires-clause-forms c = no_forms c.args.network.now.trees.items c.args.network.now.drives.items c.args.order.now c.args.leads.now c.args.terns.now _ refl
