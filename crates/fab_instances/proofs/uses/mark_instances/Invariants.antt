use Rattle.std.proofs.Common.{◌≡◌, map, take}
use Rattle.fab_blif_models.specs.Plain.{plain_statement}
use Rattle.fab_instances.specs.Uses.{marked_all}
use Rattle.fab_bits.specs.Keys.{key_names}
use Rattle.fab_instances.proofs.uses.mark_instances.Given as goal

abbrev pub invariant-loop-statement : goal.invariant-loop-statement
invariant-loop-statement l = record { marks = l.marks; todo = l.todo.items }
    ≡ marked_all (key_names l.places.keys) (record { marks = l.fn.marks; todo = l.fn.todo.items }) (map plain_statement (take l.statement-index l.model.statements.items))
