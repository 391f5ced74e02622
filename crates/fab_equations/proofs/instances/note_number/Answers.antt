use Rattle.std.proofs.Common.{◌∙◌}
use Rattle.fab_syntax.specs.Plain.{plain_module}
use Rattle.fab_equations.proofs.Numbered.{noted}
use Rattle.fab_equations.proofs.instances.note_number.Goals as goal

pub returns : goal.returns
returns c before is are =
    noted before (plain_module c.args.definition.now) c.args.numbers.now.entries c.insert.new.self.entries c.in_ok-key.key c.in-Ok.number
    (c.in_ok-key.ensures.items ∙ c.bytes.ensures) are (c.in-Ok.ensures.1 ∙ is) c.in_ok-insert.ensures.entries
