use Rattle.std.proofs.Common.{◌≡◌, refl, arith}
use Rattle.fab_frames.specs.Stream.{column_parts}
use Rattle.fab_frames.proofs.Parts.{header_put, no_piece_behind, piece_put, all_put}
use Rattle.fab_frames.proofs.plan.all_frames.Goals as goal

pub loop-x-init : goal.loop-x-init
loop-x-init c =
    let header = header_put c.new-parts.result.items c.put_waiting.new.parts.items c.put_synchronizing.new.parts.items c.new-parts.ensures.items c.in_ok-put_waiting.ensures c.in_ok-put_synchronizing.ensures in
    no_piece_behind c.put_synchronizing.new.parts.items _ (column_parts c.args.fabric.now) header

pub loop-x-preserved : goal.loop-x-preserved
loop-x-preserved c =
    piece_put c.loop-x.parts.items c.put_column.new.parts.items _ (column_parts c.args.fabric.now) c.loop-x.x c.loop-x.invariant c.in_ok-put_column.ensures

pub returns : goal.returns
returns c =
    let all : c.loop-x.x ≡ c.args.fabric.now.columns = omega (arith, c.loop-x-test.false, c.loop-x.auto.x-end, c.columns-x-end.ensures) in
    all_put c.args.fabric.now c.loop-x.parts.items c.push.new.self.items _ c.loop-x.x c.loop-x.invariant all c.in_ok-push.ensures.items refl
