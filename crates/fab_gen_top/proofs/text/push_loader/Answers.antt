use Rattle.std.proofs.Common.{subst}
use Rattle.fab_gen_loader.specs.Bounds.{IsSmall}
use Rattle.fab_gen_loader.specs.Loader.{IsLoader}
use Rattle.fab_text_loads_laws.specs.fab_fabric_text_defs_Texts.{one}
use Rattle.fab_gen_top.proofs.text.push_loader.Goals as goal

pub returns-clause-loaders : goal.returns-clause-loaders
returns-clause-loaders c =
    let made = c.in_ok-loader_module.ensures in
    one (subst (IsLoader c.args.rows) made.module made.loader) (subst IsSmall made.module made.small)
