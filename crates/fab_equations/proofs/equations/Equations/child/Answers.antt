use Rattle.std.proofs.Common.{sym, subst, ◌∙◌}
use Rattle.fab_syntax.specs.Plain.{plain_text}
use Rattle.fab_equations.specs.Lookups.{IsChildNamed}
use Rattle.fab_equations.proofs.Found.{no_child, child_named, names_here}
use Rattle.fab_equations.proofs.equations.Equations.child.Goals as goal

pub returns-in_err-child : goal.returns-in_err-child
returns-in_err-child c =
    let text = plain_text c.args.self.now in
    λ i is. subst (IsChildNamed text i c.args.name.now) (sym c.from_residual.ensures)
    (no_child text c.here.ensures.sound c.args.instance i is c.here.result.table.now.child_names.keys (names_here text c.args.instance c.here.result c.here.ensures i is) c.args.name.now
    (sym c.get_index_of.ensures.index ∙ c.in_err-child.was))

pub returns : goal.returns
returns c =
    let text = plain_text c.args.self.now in
    λ i is. child_named text c.here.ensures.sound c.args.instance i is c.here.result.table.now.child_names.keys (names_here text c.args.instance c.here.result c.here.ensures i is) c.args.name.now
    c.in_ok-child.child c.child_of.result (sym c.get_index_of.ensures.index ∙ c.in_ok-child.was) c.child_of.ensures
