use Rattle.std.proofs.Common.{◌≡◌, ◌++◌, map, take}
use Rattle.fab_blif_models.specs.Plain.{plain_statement}
use Rattle.fab_instances.proofs.soonest.push_lines.Given as goal

abbrev pub invariant-loop-statement : goal.invariant-loop-statement
invariant-loop-statement l = map (λ line. plain_statement line.now) l.lines.items
    ≡ map (λ line. plain_statement line.now) l.fn.lines.items ++ map plain_statement (take l.statement-index l.model.statements.items)
