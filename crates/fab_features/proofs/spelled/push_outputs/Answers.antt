use Rattle.std.proofs.Common.{◌≡◌, ℕ, [], ◌∷◌, ◌++◌, List, Option, Some, None, false, get_or, take, ap, ◌∙◌, sym}
use Rattle.std.specs.List.{filter_map}
use Rattle.std.specs.Option.{option_map}
use Rattle.fab_legal.proofs.Lists.{at_default}
use Rattle.fab_features.specs.Design.{feature_of}
use Rattle.fab_features.specs.inner.Listing.{placed_tile}
use Rattle.fab_features.specs.Spelled.{tile_picks, tile_pair_name}
use Rattle.fab_features.proofs.Pushed.{pushes_both, pushes_same, some_more, none_more}
use Rattle.fab_features.proofs.spelled.push_outputs.Goals as goal
use Rattle.fab_features.proofs.spelled.push_outputs.Goals.{in-Some+in_ok-name+in_ok-push_line, in_default}

pub loop-output-preserved : goal.loop-output-preserved
loop-output-preserved c =
    let l = c.loop-output in
    let outputs = c.as_slice-outputs.result.now in
    let output = get_or outputs l.output-index 0 in
    let at = at_default outputs l.output-index 0 c.loop-output-test.true in
    let placed = placed_tile c.args.x c.args.y c.args.tile.now in
    let f = tile_picks (λ place. get_or c.args.bits.now place false) placed in
    let start = c.args.features.now.items in
    let before = filter_map f (take l.output-index outputs) in
    let made : Option ℕ → Option _ = option_map (λ input. feature_of (tile_pair_name placed input output) 0 0 1) in
    elim c.match-picked_input.branch [
      | in-Some+in_ok-name+in_ok-push_line w ↦ (
          let one = feature_of w.in_ok-name.name 0 0 1 in
          let is : f output ≡ Some one = ap made (sym w.in-Some.ensures) ∙ ap (λ (n : List ℕ). Some (feature_of n 0 0 1)) (sym w.in_ok-name.ensures) in
          rw w.features-is (pushes_same start w.push_line.new.features.items (before ++ one ∷ []) _ (some_more f outputs l.output-index output one at is)
          (pushes_both start l.features.items w.push_line.new.features.items before (one ∷ []) l.invariant w.in_ok-push_line.ensures)))
      | in_default w ↦ (
          let is : f output ≡ None = ap made (sym w.in_default.ensures) in
          rw w.features-is (pushes_same start l.features.items before _ (none_more f outputs l.output-index output at is) l.invariant))
    ]
