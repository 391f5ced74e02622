use Rattle.std.proofs.Common.{ℕ, List, Option, Some, option_copied, subst, sym}
use Rattle.std.specs.Borrow.{Bor}
use Rattle.fab_flow.specs.Resetting.{HasReset}
use Rattle.fab_flow.proofs.ResetPorts.{has_set}
use Rattle.fab_flow.proofs.resetting.take_reset.Goals as goal

pub returns-then-set_reset-clause-has : goal.returns-then-set_reset-clause-has
returns-then-set_reset-clause-has c =
    let netlist = c.args.netlist.now in
    subst (λ (port : Option (Bor (List ℕ))). HasReset (option_copied port) netlist) (sym c.in-Some.is)
    (subst (λ (port : List ℕ). HasReset (Some port) netlist) c.bytes.ensures
    (has_set netlist c.set_reset.new.self c.bytes.result.now c.set_reset.result c.set_reset.ensures.sets c.if-set_reset.true))
