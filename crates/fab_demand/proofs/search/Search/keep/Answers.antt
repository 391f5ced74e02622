use Rattle.std.proofs.Common.{ℕ, List, [], ◌∷◌, ap, ◌∙◌, refl, arith, length-append}
use Rattle.fab_demand.specs.Asked.{Asked}
use Rattle.fab_demand.specs.Search.{asked_of}
use Rattle.fab_demand.proofs.Lists.{unset_fewer}
use Rattle.fab_demand.proofs.Rooms.{closed_room}
use Rattle.fab_demand.proofs.search.Search.keep.Goals as goal

pub returns : goal.returns
returns c =
    let with_own : List ℕ → Asked = λ own. record (asked_of c.args.self.now) { own = own } in
    let asked = c.close.ensures.asked ∙ ap with_own c.add.ensures.items in
    record {
      asked = asked;
      done = c.close.ensures.done;
      stack = c.close.ensures.stack;
      gates = c.close.ensures.gates;
      room = closed_room c.args.self.now c.close.new.self c.args.point _ c.requires.room c.requires.done asked refl refl
          (omega (arith, length-append c.args.self.now.own.items (c.args.point ∷ [])))
          c.close.ensures.done c.close.ensures.stack (omega (arith, c.close.ensures.own_room, c.add.ensures.room)) (omega (arith, c.close.ensures.stack_room));
    }

pub add-requires : goal.add-requires
add-requires c = record {
  room = omega (arith, unset_fewer c.args.self.now.done.items c.args.point c.requires.done, c.requires.room.own, c.requires.room.own_room);
}
