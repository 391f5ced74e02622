use Rattle.std.proofs.Common.{◌<◌, length, ap, ◌∙◌, arith}
use Rattle.fab_ternary.specs.Terns.{is_one}
use Rattle.fab_stepping.proofs.Reading.{kept_read}
use Rattle.fab_sim.proofs.Ended.{bit_is}
use Rattle.fab_sim.proofs.stepper.Stepper.value.Goals as goal

pub returns : goal.returns
returns c text state draws moment stands p at =
    let board = c.args.self.now.board in
    let less : c.args.point < length board.terns.items = omega (arith, c.requires.5, c.requires.4.board.terns, c.requires.4.network.long) in
    c.is_yes.ensures ∙ ap is_one (kept_read board.terns.items c.args.point c.index.result.now less c.index.ensures ∙ stands.standing.shown c.args.point p at) ∙ bit_is (moment.standing.now p)
