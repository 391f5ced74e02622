use Rattle.std.proofs.Common.{◌∙◌, ℕ, false, List, [], ◌∷◌, ◌++◌, ap, codes}
use Rattle.fab_matrix.specs.fab_meaning.specs.Ports.{config_name}
use Rattle.fab_gen_tile.specs.Names.{vector}
use Rattle.fab_gen_tile.specs.ConfigModule.{config_ports}
use Rattle.fab_gen_tile.proofs.config.config_of.Goals as goal

pub returns : goal.returns
returns c = λ j. record {
  name = (c.in_ok-name.ensures ∙ ap (λ (n : List ℕ). codes "config_" ++ n) c.name.ensures) j;
  ports = (c.in_ok-ports.ensures ∙ ap (λ n. config_ports c.args.mode ++ vector false n config_name ∷ []) c.bits.ensures) j;
  items = c.in_ok-items.ensures j;
}
