use Rattle.fab_blif_models.specs.Plain.{PlainStatement, plain_statement}
use Rattle.fab_instances.specs.Formals.{ports_by}
use Rattle.fab_bits.specs.Keys.{key_names}
use Rattle.fab_instances.proofs.Naming.{same_held}
use Rattle.fab_instances.proofs.formals.ports_of.Goals as goal

pub loop-statement-preserved : goal.loop-statement-preserved
loop-statement-preserved c =
    same_held plain_statement (λ (s : PlainStatement). ports_by s.body) c.args.model.now.statements.items c.deref-statement-items.result.now (key_names c.loop-statement.ports.keys) (key_names c.insert_ports.new.ports.keys) c.loop-statement.statement-index c.statement-item.result
    c.deref-statement-items.ensures.value c.loop-statement-test.true c.statement-item.is c.loop-statement.invariant c.in_ok-insert_ports.ensures
