use Rattle.std.proofs.Common.{map, take}
use Rattle.fab_blif_models.specs.Plain.{plain_statement}
use Rattle.fab_instances.specs.Formals.{SameNames, port_names}
use Rattle.fab_bits.specs.Keys.{key_names}
use Rattle.fab_instances.proofs.formals.ports_of.Given as goal

abbrev pub invariant-loop-statement : goal.invariant-loop-statement
invariant-loop-statement l = SameNames (key_names l.ports.keys) (port_names (map plain_statement (take l.statement-index l.model.statements.items)))
