use Rattle.std.proofs.Common.{◌≡◌, [], ◌∙◌, sym, ap, arith}
use Rattle.std.specs.List.{flat_map}
use Rattle.fab_model.specs.Tiles.{counted}
use Rattle.fab_frames.specs.inner.Placing.{column_chain}
use Rattle.fab_frames.proofs.Chains.{chain_is}
use Rattle.fab_frames.proofs.Lists.{no_pieces, one_piece_behind}
use Rattle.fab_frames.proofs.positions.chain.Goals as goal

pub loop-x-init : goal.loop-x-init
loop-x-init c = c.new-places.ensures.items ∙ sym (no_pieces (column_chain c.args.fabric.now) (λ x. x))

pub loop-x-preserved : goal.loop-x-preserved
loop-x-preserved c =
    one_piece_behind [] c.loop-x.places.items c.push_column.new.places.items c.loop-x.x (column_chain c.args.fabric.now) c.loop-x.invariant c.in_ok-push_column.ensures

pub returns : goal.returns
returns c =
    let all : c.loop-x.x ≡ c.args.fabric.now.columns = omega (arith, c.loop-x-test.false, c.loop-x.auto.x-end, c.columns-x-end.ensures) in
    c.loop-x.invariant ∙ ap (λ n. flat_map (column_chain c.args.fabric.now) (counted n (λ x. x))) all ∙ sym (chain_is c.args.fabric.now)
