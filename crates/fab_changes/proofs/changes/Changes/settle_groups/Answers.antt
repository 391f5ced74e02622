use Rattle.std.proofs.Common.{length, refl, sym, ap, ◌∙◌, arith}
use Rattle.fab_changes.proofs.Cycle.{groups_after, right_passed, room_after}
use Rattle.fab_changes.proofs.Right.{points_same, written_then}
use Rattle.fab_changes.proofs.Touching.{touched_by, touched_none, touched_then}
use Rattle.fab_changes.proofs.changes.Changes.settle_groups.Goals as goal

pub loop-number-init : goal.loop-number-init
loop-number-init c = record {
  same = record { taken = refl; groups = refl; lists = refl; long = refl; room = refl };
  waits = record { places = refl; waiting = refl };
  right = c.requires.right;
  written = record { points = points_same c.args.demand.now; others = λ point each. refl };
  watches = touched_none c.args.demand.now.own c.args.demand.now.terns c.args.watches.now;
}

pub settle_group-requires : goal.settle_group-requires
settle_group-requires c =
    let inv = c.loop-number.invariant in
    let self = c.loop-number.self in
    let next = c.in-Some.ensures in
    record {
      fit = c.requires.fit;
      points = c.requires.points ∙ ap length (sym inv.written.points.leads);
      within = omega (arith, next.within, inv.same.long, c.requires.long, ap length inv.same.groups);
      groups = groups_after c.args.network.now c.args.demand.now c.loop-number.demand c.args.self.now self inv.written.points inv.same c.requires.groups;
      long = inv.same.long ∙ c.requires.long ∙ sym (ap length inv.same.groups);
      room = room_after c.args.self.now self inv.same c.requires.room;
      right = right_passed c.args.network.now c.loop-number.demand self c.loop-number.from c.in-Some.number next.passed inv.right;
    }

pub loop-number-preserved : goal.loop-number-preserved
loop-number-preserved c =
    let old = c.args.demand.now in
    let mid = c.loop-number.demand in
    let new = c.settle_group.new.demand in
    let inv = c.loop-number.invariant in
    let done = c.settle_group.ensures in
    let own = inv.written.points.own in
    record {
      same = record {
        taken = done.same.taken ∙ inv.same.taken;
        groups = done.same.groups ∙ inv.same.groups;
        lists = done.same.lists ∙ inv.same.lists;
        long = done.same.long ∙ inv.same.long;
        room = done.same.room ∙ inv.same.room;
      };
      waits = record { places = done.waits.places ∙ inv.waits.places; waiting = done.waits.waiting ∙ inv.waits.waiting };
      right = done.right;
      written = written_then c.args.network.now old mid new inv.written done.written;
      watches = touched_then old.own old.terns mid.terns new.terns c.args.watches.now c.loop-number.watches c.settle_group.new.watches inv.watches
          (touched_by old.own mid.own mid.terns new.terns mid.terns new.terns c.loop-number.watches c.settle_group.new.watches own refl refl done.watches);
    }
