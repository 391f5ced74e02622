use Rattle.std.proofs.Common.{refl}
use Rattle.fab_compiled.proofs.Telling.{whole_length, whole_tells}
use Rattle.fab_compiled.proofs.parts.all_bits.Goals as goal

pub returns-clause-within : goal.returns-clause-within
returns-clause-within c =
    whole_length c.args.view.now.terns.now c.args.view.now.leads.now c.args.marks.now c.args.first c.args.tree.now
    (record { low = 0; bits = c.in_ok-bits.bits; marked = c.is_marked-marked.result }) c.requires.made c.in_ok-bits.ensures

pub returns-clause-tells : goal.returns-clause-tells
returns-clause-tells c =
    whole_tells c.args.view.now.terns.now c.args.view.now.leads.now c.args.marks.now c.args.first c.args.tree.now
    (record { low = 0; bits = c.in_ok-bits.bits; marked = c.is_marked-marked.result }) c.requires.made c.requires.begins c.requires.inside
    c.in_ok-bits.ensures refl c.is_marked-marked.ensures
