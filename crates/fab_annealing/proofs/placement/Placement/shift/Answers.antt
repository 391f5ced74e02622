use Rattle.std.proofs.Common.{length, ap, ◌∙◌, length-set}
use Rattle.fab_annealing.proofs.Laying.{put_inside, put_places}
use Rattle.fab_annealing.proofs.placement.Placement.shift.Goals as goal

pub returns-clause-laid : goal.returns-clause-laid
returns-clause-laid c =
    let board = c.args.board.now in
    let old = c.args.self.now in
    let put = c.put.new.self in
    record {
      items = ap length c.put.ensures.sites ∙ length-set old.sites.items c.args.item c.args.site ∙ c.requires.laid.items;
      inside = put_inside board old.sites.items put.sites.items c.args.item c.args.site c.requires.laid.inside c.requires.site c.put.ensures.sites;
      columns = c.refresh.ensures.places ∙ put_places board.columns.items old.sites.items old.across.places.items put.across.places.items put.sites.items c.args.item c.args.site c.requires.laid.columns c.put.ensures.columns c.put.ensures.sites;
      rows = c.refresh-2.ensures.places ∙ put_places board.rows.items old.sites.items old.down.places.items put.down.places.items put.sites.items c.args.item c.args.site c.requires.laid.rows c.put.ensures.rows c.put.ensures.sites;
      across = c.in_ok-refresh.ensures.measured;
      down = c.in_ok-refresh-2.ensures.measured;
      across_noted = c.in_ok-refresh.ensures.noted;
      down_noted = c.in_ok-refresh-2.ensures.noted;
    }
