use Rattle.std.proofs.Common.{◌≡◌, ◌<◌, List, Option, Some, length, refl, sym, ap, ◌∙◌, arith}
use Rattle.std.specs.List.{slice_get}
use Rattle.std.proofs.lemmas.Option.{slice_get_read}
use Rattle.fab_ternary.specs.Terns.{plain_tern}
use Rattle.fab_compiled.specs.Terns.{seen}
use Rattle.fab_compiled.specs.declared.tree.Tree.{Tree}
use Rattle.fab_network.specs.declared.network.Clock.TheVariants.{User}
use Rattle.fab_network.specs.declared.network.Drive.{Drive}
use Rattle.fab_wiring.specs.Given.{left_by}
use Rattle.fab_stepping.proofs.Reading.{kept_read}
use Rattle.fab_stepping.specs.Boards.{shown_on}
use Rattle.fab_stepping.proofs.Ticking.{shared_at, ticked_more, ticked_none}
use Rattle.fab_stepping.proofs.board.Board.tick.Goals as goal

pub loop-point-init : goal.loop-point-init
loop-point-init c = record {
  ticked = ticked_none c.args.network.now c.args.self.now;
  shared = c.new-shared.ensures c.args.network.now.trees.items (length c.args.self.now.leads.items) (shown_on c.args.self.now);
}

pub left-requires-clause-shared : goal.left-requires-clause-shared
left-requires-clause-shared c =
    let before = c.args.self.now in
    let so_far = c.loop-point.invariant.ticked in
    shared_at c.args.network.now.trees.items c.deref.result.now before.terns.items c.view.result.terns.now before.leads.items c.view.result.leads.now c.loop-point.shared
    (sym c.deref.ensures.value) (sym (c.view.ensures.terns ∙ (λ i. (so_far.terns i).items))) (sym (c.view.ensures.leads ∙ (λ i. (so_far.leads i).items)))
    c.loop-point.invariant.shared

pub loop-point-preserved : goal.loop-point-preserved
loop-point-preserved c =
    let network = c.args.network.now in
    let point = c.loop-point.point in
    let now = c.loop-point.self in
    let before = c.args.self.now in
    let so_far = c.loop-point.invariant.ticked in
    let drives = network.drives.items in
    let there : point < length drives = omega (arith, c.requires.board.held, c.len-point-end.ensures) in
    let less : point < length now.held.items = omega (arith, c.loop-point.invariant.ticked.long, c.len-point-end.ensures) in
    let drive : slice_get drives point ≡ Some c.index-drive.result.now = slice_get_read drives (length drives) point c.index-drive.result.now refl there c.index-drive.ensures in
    let left =
    c.left.ensures.left
    ∙ ap (λ (ts : List Tree). left_by ts User (plain_tern c.index.result.now) (seen c.view.result.terns.now c.view.result.leads.now) point (Some c.index-drive.result.now)) c.deref.ensures.value
    ∙ ap (λ (o : Option Drive). left_by network.trees.items User (plain_tern c.index.result.now) (seen c.view.result.terns.now c.view.result.leads.now) point o) (sym drive) in
    record {
      ticked = ticked_more network before now _ point c.index.result.now c.left.result c.view.result.terns.now c.view.result.leads.now so_far less refl refl refl
          c.view.ensures.terns c.view.ensures.leads (kept_read now.held.items point c.index.result.now less c.index.ensures) left;
      shared = shared_at c.deref.result.now network.trees.items c.view.result.terns.now before.terns.items c.view.result.leads.now before.leads.items c.left.new.shared
          c.deref.ensures.value (c.view.ensures.terns ∙ (λ i. (so_far.terns i).items)) (c.view.ensures.leads ∙ (λ i. (so_far.leads i).items)) c.left.ensures.shared;
    }
