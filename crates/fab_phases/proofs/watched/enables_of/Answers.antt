use Rattle.std.proofs.Common.{map, sym, ◌∙◌, append-nil}
use Rattle.fab_phases.specs.declared.flop_groups.FlopGroup.{FlopGroup}
use Rattle.fab_phases.proofs.watched.enables_of.Goals as goal

pub loop-run-init : goal.loop-run-init
loop-run-init c = c.in_ok-enables.ensures ∙ sym (append-nil (map (λ (group : FlopGroup). group.enable) c.args.groups.now))
