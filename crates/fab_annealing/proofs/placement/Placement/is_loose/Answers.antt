use Rattle.std.proofs.Common.{◌≡◌, ◌<◌, Some, None, sym, ◌∙◌, get_or, length, arith}
use Rattle.std.proofs.lemmas.List.{get_or_default}
use Rattle.fab_annealing.proofs.placement.Placement.is_loose.Goals as goal

pub index-requires-in-Some : goal.index-requires-in-Some
index-requires-in-Some c =
    let items = c.args.self.now.items.items in
    let inside : c.args.site < length items = omega (arith, c.requires.site, c.requires.kept.standing.count) in
    let is : get_or items c.args.site None ≡ Some c.in-Some.other = sym (get_or_default items c.args.site c.index.result.now None inside) ∙ sym c.index.ensures ∙ c.in-Some.is in
    omega (arith, (c.requires.kept.standing.there c.args.site c.in-Some.other is).0, c.requires.kept.laid.items, c.requires.board.locks, c.args.board.now.locked.ok.0)
