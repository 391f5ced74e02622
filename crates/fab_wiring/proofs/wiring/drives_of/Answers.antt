use Rattle.std.proofs.Common.{subst, arith}
use Rattle.fab_syntax.specs.Plain.{plain_text}
use Rattle.fab_wiring.proofs.Driving.{AreDriven, more_driven, all_fit, all_drives}
use Rattle.fab_wiring.proofs.wiring.drives_of.Goals as goal

pub loop-point-preserved : goal.loop-point-preserved
loop-point-preserved c = (
  c.in_ok-drive_of.ensures.trees,
  more_driven (plain_text c.args.equations.now) c.loop-point.trees.trees.items c.drive_of.new.trees.trees.items c.in_ok-drive_of.ensures.kept c.loop-point.point
      c.loop-point.drives.items c.push.new.self.items c.in_ok-drive_of.field-0 c.driver_near-driver.result c.in_ok-push.ensures.items c.driver_near-driver.ensures.drives
      c.in_ok-drive_of.ensures.drive c.in_ok-drive_of.ensures.fit c.loop-point.invariant.1,
)

pub returns-clause-fit : goal.returns-clause-fit
returns-clause-fit c =
    let text = plain_text c.args.equations.now in
    all_fit text c.loop-point.trees.trees.items c.loop-point.drives.items
    (subst (λ n. AreDriven text c.loop-point.trees.trees.items n c.loop-point.drives.items) (omega arith) c.loop-point.invariant.1)

pub returns-clause-drives : goal.returns-clause-drives
returns-clause-drives c =
    let text = plain_text c.args.equations.now in
    all_drives text c.loop-point.trees.trees.items c.loop-point.drives.items
    (subst (λ n. AreDriven text c.loop-point.trees.trees.items n c.loop-point.drives.items) (omega arith) c.loop-point.invariant.1)
    c.text_is_sound.ensures.sound c.points_of_sound_texts_have_one_driver.ensures
