use Rattle.std.proofs.Common.{◌<◌, length, ap, ◌∙◌, arith}
use Rattle.fab_ternary.specs.Terns.{is_known}
use Rattle.fab_stepping.proofs.Reading.{kept_read}
use Rattle.fab_sim.proofs.Ended.{not_twice}
use Rattle.fab_sim.proofs.stepper.Stepper.known.Goals as goal

pub returns : goal.returns
returns c text state draws moment stands p at =
    let solution = c.args.self.now.solution.items in
    let less : c.args.point < length solution = omega (arith, c.requires.5, c.requires.4.solution_long) in
    not_twice _ c.is_open.result c.is_open.ensures ∙ ap is_known (kept_read solution c.args.point c.index.result.now less c.index.ensures ∙ stands.solution c.args.point p at)
