use Rattle.std.proofs.Common.{ap, sym, ◌∙◌, length}
use Rattle.std.specs.List.{count_by}
use Rattle.fab_model.specs.Grid.{tile_at}
use Rattle.fab_fabric.specs.Sites.{same_kind, tile_sites}
use Rattle.fab_fabric.proofs.Counted.{tile_count}
use Rattle.fab_fabric.proofs.fabric.Fabric.place_sites.Goals as goal

pub returns-in-Some-clause-count : goal.returns-in-Some-clause-count
returns-in-Some-clause-count c =
    c.count_bels.ensures.count ∙ ap (count_by (λ bel. same_kind bel.kind c.args.kind)) c.bels.ensures
    ∙ sym (tile_count c.args.kind c.args.x c.args.y (tile_at c.args.self.now c.args.x c.args.y) c.in-Some.tile.now c.in-Some.ensures.found.0)
