use Rattle.std.proofs.Common.{ap, ◌∙◌}
use Rattle.fab_equations.specs.Numbers.{number_named}
use Rattle.fab_equations.proofs.instances.child_number.Goals as goal

pub returns-in-Instance : goal.returns-in-Instance
returns-in-Instance c before are =
    rw c.in-Instance.is (c.copied.ensures ∙ c.get.ensures.value ∙ are c.bytes.result.now ∙ ap (number_named before) c.bytes.ensures)
