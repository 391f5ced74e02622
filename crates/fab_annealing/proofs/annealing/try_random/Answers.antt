use Rattle.std.proofs.Common.{◌+◌, ◌<◌, length, refl, arith}
use Rattle.fab_annealing.proofs.Falling.{keeps_taken}
use Rattle.fab_annealing.proofs.Laying.{total_low}
use Rattle.fab_annealing.proofs.annealing.try_random.Goals as goal

pub overflow_add-most : goal.overflow_add-most
overflow_add-most c =
    let nets = c.args.board.now.nets in
    let across = c.args.placement.now.across in
    let down = c.args.placement.now.down in
    let laid = c.requires.kept.laid in
    omega (arith, c.cost.ensures, c.allowed-room.ensures, total_low nets across.places.items across.spans.items across.total c.requires.board.good_nets laid.across, total_low nets down.places.items down.spans.items down.total c.requires.board.good_nets laid.down)

pub returns-clause-keeps : goal.returns-clause-keeps
returns-clause-keeps c =
    let old = c.args.placement.now in
    let low : c.below-item.result < length old.sites.items = omega (arith, c.below-item.ensures, c.len.ensures, c.args.board.now.locked.ok.0, c.requires.board.locks, c.requires.kept.laid.items) in
    keeps_taken c.args.board.now old.sites.items c.exchange_below.new.self.sites.items old.items.items c.below-item.result c.in-Some.site c.site_of-from.result (c.cost.result + c.allowed-room.result) c.in_ok-_taken._taken
    c.requires.kept.standing low c.site_of-from.ensures c.in-Some.ensures.kind (c.if-not-is_loose.ensures.0 refl) c.in_ok-_taken.ensures.taken c.in_ok-_taken.ensures.left
