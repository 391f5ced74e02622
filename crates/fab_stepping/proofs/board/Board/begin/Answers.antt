use Rattle.std.proofs.Common.{◌≡◌, ◌<◌, List, Some, length, get_or, refl, sym, ap, ◌∙◌, arith}
use Rattle.std.specs.List.{slice_get}
use Rattle.std.proofs.lemmas.Option.{slice_get-get_or, slice_get_within}
use Rattle.fab_network.specs.declared.network.Drive.{Drive}
use Rattle.fab_network.specs.declared.network.Drive.TheVariants.{Given}
use Rattle.fab_stepping.proofs.Reading.{kept_read}
use Rattle.fab_stepping.proofs.Solved.{begun_more}
use Rattle.fab_stepping.proofs.board.Board.begin.Goals as goal

pub loop-point-preserved : goal.loop-point-preserved
loop-point-preserved c =
    let network = c.args.network.now in
    let board = c.args.self.now in
    let point = c.loop-point.point in
    let items = c.deref-drive-items.result.now in
    let there : point < length network.drives.items = omega (arith, c.deref-drive-items.ensures.len) in
    let less : point < length c.loop-point.solution = omega (arith, c.requires.solution) in
    let in_terns : point < length board.terns.items = omega (arith, c.requires.board.terns) in
    let in_held : point < length board.held.items = omega (arith, c.requires.board.held) in
    let at : slice_get network.drives.items point ≡ Some (get_or items point Given) =
    ap (λ (ds : List Drive). slice_get ds point) (sym c.deref-drive-items.ensures.value) ∙ slice_get-get_or items point Given c.loop-point-test.true in
    begun_more network board point c.loop-point.solution _ (get_or items point Given) c.begun.result c.index.result.now c.index-in-loop-point.result.now at refl less
    (kept_read board.terns.items point c.index.result.now in_terns c.index.ensures) (kept_read board.held.items point c.index-in-loop-point.result.now in_held c.index-in-loop-point.ensures)
    c.begun.ensures c.loop-point.invariant

pub returns : goal.returns
returns c =
    record {
      long = omega (arith, c.requires.solution);
      begun = λ point drive at.
          let inside = slice_get_within c.args.network.now.drives.items point drive at in
          c.loop-point.invariant point drive (omega (arith, c.deref-drive-items.ensures.len)) at;
    }
