use Rattle.std.proofs.Common.{Some, sym, ap, ◌∙◌}
use Rattle.fab_ternary.specs.Terns.{plain_tern}
use Rattle.fab_compiled.specs.Terns.{seen}
use Rattle.fab_network.specs.declared.network.Clock.TheVariants.{User}
use Rattle.fab_network.specs.declared.network.Drive.{Drive}
use Rattle.fab_wiring.specs.Given.{left_by}
use Rattle.fab_stepping.proofs.board.left.Goals as goal

pub returns-in-Flop-clause-left : goal.returns-in-Flop-clause-left
returns-in-Flop-clause-left c =
    c.left_with_flop.ensures.left c.args.point
    ∙ sym (ap (λ (d : Drive). left_by c.args.trees.now User (plain_tern c.args.held) (seen c.args.view.now.terns.now c.args.view.now.leads.now) c.args.point (Some d)) c.in-Flop.is)
