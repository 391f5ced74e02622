use Rattle.std.proofs.Common.{map, ap, ◌∙◌}
use Rattle.fab_syntax.specs.Plain.{plain_join}
use Rattle.fab_equations.specs.Counting.{count_named}
use Rattle.fab_equations.proofs.Counted.{instance_counts}
use Rattle.fab_equations.proofs.counts.item_count.Goals as goal

pub returns-in-Instance : goal.returns-in-Instance
returns-in-Instance c before are =
    rw c.in-Instance.is (instance_counts before c.in-Instance.of c.in-Instance.field-1 (map plain_join c.in-Instance.field-2.items) c.count_in.result
    (c.count_in.ensures ∙ are c.bytes.result.now ∙ ap (count_named before) c.bytes.ensures))
