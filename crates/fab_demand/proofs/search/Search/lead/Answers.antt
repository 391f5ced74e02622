use Rattle.std.proofs.Common.{refl, arith}
use Rattle.std.proofs.lemmas.List.{length-set}
use Rattle.fab_demand.proofs.Rooms.{closed_room}
use Rattle.fab_demand.proofs.search.Search.lead.Goals as goal

pub returns : goal.returns
returns c = record {
  asked = c.close.ensures.asked;
  done = c.close.ensures.done;
  stack = c.close.ensures.stack;
  gates = c.close.ensures.gates;
  room = closed_room c.args.self.now c.close.new.self c.args.point _ c.requires.room c.requires.done c.close.ensures.asked
      (length-set c.args.self.now.leads.items c.args.point c.args.other) refl
      (omega arith) c.close.ensures.done c.close.ensures.stack (omega (arith, c.close.ensures.own_room)) (omega (arith, c.close.ensures.stack_room));
}
