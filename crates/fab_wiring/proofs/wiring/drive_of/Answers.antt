use Rattle.fab_syntax.specs.Plain.{plain_text}
use Rattle.fab_wiring.proofs.Sources.{made_stays}
use Rattle.fab_wiring.proofs.Driving.{hold_drive}
use Rattle.fab_wiring.proofs.wiring.drive_of.Goals as goal

pub returns-in_ok-latched-in-Hold-clause-drive : goal.returns-in_ok-latched-in-Hold-clause-drive
returns-in_ok-latched-in-Hold-clause-drive c d means =
    let text = plain_text c.args.equations.now in
    let trees = c.source-in-Hold-2.new.self.trees.items in
    hold_drive text trees c.args.driver d means c.in-Hold.gate c.in-Hold.latched c.in_ok-gate-in-Hold.gate c.in_ok-latched-in-Hold.latched c.in-Hold.is
    (made_stays text c.source-in-Hold.new.self.trees.items trees c.in_ok-latched-in-Hold.ensures.kept c.in-Hold.gate c.in_ok-gate-in-Hold.gate c.in_ok-gate-in-Hold.ensures.made)
    c.in_ok-latched-in-Hold.ensures.made
