use Rattle.std.proofs.Common.{◌<◌, length, get_or, sym, ◌∙◌, arith}
use Rattle.std.proofs.lemmas.Bool.{false≢true}
use Rattle.fab_ternary.specs.declared.Tern.TheVariants.{No}
use Rattle.fab_stepping.proofs.Reading.{kept_get, kept_read}
use Rattle.fab_stepping.proofs.Activated.{activated_more, known_read, not_true, still_known}
use Rattle.fab_stepping.proofs.board.Board.activate_all.Goals as goal
use Rattle.fab_stepping.proofs.board.Board.activate_all.Goals.{then-known, else-known}

pub loop-point-preserved : goal.loop-point-preserved
loop-point-preserved c =
    let order = c.args.order.now in
    let place = c.loop-point.point-index in
    let point = get_or order place 0 in
    let below = c.requires.order place 0 c.loop-point-test.true in
    let inside : point < length c.args.solution.now = omega (arith, below, c.requires.solution) in
    let after = c.activate-moved.new.self in
    let here : point < length after.terns.items = omega (arith, below, c.activate-moved.ensures.board.terns) in
    record {
      so_far = activated_more c.args.network.now order c.args.solution.now c.args.self.now c.loop-point.self c.activate-moved.new.self place c.loop-point.changed c.activate-moved.result
          (get_or c.args.solution.now point No) c.loop-point.invariant.so_far c.requires.apart c.loop-point-test.true c.activate-moved.ensures.activated c.activate-moved.ensures.board
          c.activate-moved.ensures.moved (kept_get c.args.solution.now point No inside) c.noted-changed.result c.noted-changed.ensures;
      known = elim c.if-known.branch [
        | then-known w ↦ λ e.
            still_known c.args.network.now point c.loop-point.self after c.activate-moved.ensures.activated (c.loop-point.invariant.known w.if-known.true)
            (known_read after.terns.items point w.index.result.now w.is_open.result w.is_open.ensures (not_true w.is_open.result (sym w.known-is ∙ e))
            (kept_read after.terns.items point w.index.result.now here w.index.ensures))
        | else-known w ↦ λ e. absurd (false≢true (sym w.if-known.false ∙ sym w.known-is ∙ e))
      ];
    }
