use Rattle.std.proofs.Common.{◌∙◌}
use Rattle.fab_syntax.specs.Plain.{plain_module}
use Rattle.fab_equations.proofs.Counted.{added}
use Rattle.fab_equations.proofs.counts.count_module.Goals as goal

pub returns : goal.returns
returns c before are =
    added before (plain_module c.args.definition.now) c.args.counts.now.entries c.insert.new.self.entries c.in_ok-key.key c.module_count-count.result
    (c.in_ok-key.ensures.items ∙ c.bytes.ensures) are (c.module_count-count.ensures before are) c.in_ok-insert.ensures.entries
