use Rattle.std.proofs.Common.{sym, ◌∙◌}
use Rattle.fab_syntax.specs.Plain.{plain_text}
use Rattle.fab_meaning.specs.Runs.{clock_name, user_clock_name}
use Rattle.fab_wiring.proofs.Clocking.{another, called_other, not_called}
use Rattle.fab_wiring.proofs.clocks.Clocks.clock.Goals as goal

pub returns : goal.returns
returns c name is =
    let text = plain_text c.args.equations.now in
    let sound = c.text_is_sound.ensures.sound in
    called_other name
    (not_called text sound c.args.input name is clock_name c.args.self.loader c.requires.loader (another c.args.self.loader c.args.input (sym c.eq.ensures ∙ c.if-eq.false)))
    (not_called text sound c.args.input name is user_clock_name c.args.self.user c.requires.user (another c.args.self.user c.args.input (sym c.eq-2.ensures ∙ c.if-eq-2.false)))
