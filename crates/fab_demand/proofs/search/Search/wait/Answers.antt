use Rattle.std.proofs.Common.{[], ◌∷◌, length, ap, ◌∙◌, arith, length-append}
use Rattle.fab_demand.proofs.Lists.{unset_fewer}
use Rattle.fab_demand.proofs.search.Search.wait.Goals as goal

pub returns-clause-room : goal.returns-clause-room
returns-clause-room c =
    let fewer = unset_fewer c.args.self.now.marks.items c.args.point c.requires.unmarked in
    let longer = ap length c.add.ensures.items ∙ length-append c.args.self.now.stack.items (c.args.point ∷ []) in
    record {
      done = c.requires.room.done;
      own = c.requires.room.own;
      own_room = c.requires.room.own_room;
      stack = omega (arith, fewer, longer, c.requires.room.stack);
      stack_room = omega (arith, c.add.ensures.room, c.requires.room.stack_room);
    }

pub add-requires : goal.add-requires
add-requires c = record {
  room = omega (arith, unset_fewer c.args.self.now.marks.items c.args.point c.requires.unmarked, c.requires.room.stack, c.requires.room.stack_room);
}
