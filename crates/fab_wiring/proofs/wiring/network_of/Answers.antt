use Rattle.std.proofs.Common.{Vec, Global, sym, subst}
use Rattle.fab_syntax.specs.Plain.{plain_text}
use Rattle.fab_compiled.specs.declared.tree.Tree.{Tree}
use Rattle.fab_wiring.specs.Wiring.{AreDrives}
use Rattle.fab_wiring.proofs.wiring.network_of.Goals as goal

pub returns-clause-drives : goal.returns-clause-drives
returns-clause-drives c =
    subst (λ (trees : Vec Tree Global). AreDrives (plain_text c.args.equations.now) trees.items c.in_ok-drives.drives.items) (sym c.into_trees.ensures) c.in_ok-drives.ensures.drives
