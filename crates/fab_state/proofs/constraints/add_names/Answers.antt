use Rattle.std.proofs.Common.{◌∙◌, ap}
use Rattle.fab_netlist.specs.Plain.{name_of}
use Rattle.fab_state.specs.Constraints.{with_word}
use Rattle.fab_state.proofs.Fixings.{fold_step}
use Rattle.fab_state.proofs.constraints.add_names.Goals as goal

pub loop-net-preserved : goal.loop-net-preserved
loop-net-preserved c =
    fold_step with_word (name_of c.args.netlist.now) c.args.words.now c.loop-net.words c.add_word.new.words c.args.nets.now c.loop-net.net-index 0 c.loop-net-test.true c.loop-net.invariant
    (c.in_ok-add_word.ensures ∙ ap (with_word c.loop-net.words) c.name_at.ensures)
