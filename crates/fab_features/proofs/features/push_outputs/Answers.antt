use Rattle.std.proofs.Common.{[], ◌∷◌, ◌++◌, get_or, take}
use Rattle.std.specs.List.{filter_map}
use Rattle.fab_legal.proofs.Lists.{at_default}
use Rattle.fab_features.specs.Design.{feature_of, output_feature}
use Rattle.fab_features.proofs.Pushed.{pushes_both, pushes_same, some_more, none_more}
use Rattle.fab_features.proofs.Listed.{output_there, output_none}
use Rattle.fab_features.proofs.features.push_outputs.Goals as goal
use Rattle.fab_features.proofs.features.push_outputs.Goals.{in-Some+in_ok-name+in_ok-push_line, in_default}

pub loop-output-preserved : goal.loop-output-preserved
loop-output-preserved c =
    let l = c.loop-output in
    let fabric = c.args.lookup.now.fabric.now in
    let i = c.args.lookup.now.implementation.now in
    let outputs = c.args.outputs.now in
    let output = get_or outputs l.output-index 0 in
    let at = at_default outputs l.output-index 0 c.loop-output-test.true in
    let f = output_feature fabric i c.args.x c.args.y in
    let start = c.args.features.now.items in
    let before = filter_map f (take l.output-index outputs) in
    elim c.match-input_of.branch [
      | in-Some+in_ok-name+in_ok-push_line w ↦ (
          let one = feature_of w.in_ok-name.name 0 0 1 in
          let is = output_there fabric i c.args.x c.args.y output w.in-Some.input c.args.tile.now w.in_ok-name.name c.requires.tile w.in-Some.ensures w.in_ok-name.ensures in
          rw w.features-is (pushes_same start w.push_line.new.features.items (before ++ one ∷ []) _ (some_more f outputs l.output-index output one at is)
          (pushes_both start l.features.items w.push_line.new.features.items before (one ∷ []) l.invariant w.in_ok-push_line.ensures)))
      | in_default w ↦ (
          let is = output_none fabric i c.args.x c.args.y output w.in_default.ensures in
          rw w.features-is (pushes_same start l.features.items before _ (none_more f outputs l.output-index output at is) l.invariant))
    ]
