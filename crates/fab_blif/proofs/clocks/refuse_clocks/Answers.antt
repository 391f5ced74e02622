use Rattle.std.proofs.Common.{◌∙◌, sym, ap}
use Rattle.fab_blif.specs.Clocks.{first_fault}
use Rattle.fab_blif.proofs.Clocking.{none_wrong}
use Rattle.fab_blif.proofs.clocks.refuse_clocks.Goals as goal

pub returns-in-None-clause-none : goal.returns-in-None-clause-none
returns-in-None-clause-none c =
    sym c.in_ok-faults.ensures ∙ none_wrong c.in_ok-faults.faults.items (ap first_fault (sym c.deref.ensures.value) ∙ sym c.in-None.ensures)
