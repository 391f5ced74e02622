use Rattle.std.proofs.Common.{sym, ap, ◌∙◌, subst, []}
use Rattle.fab_blocks.specs.Reading.{PlainReading, HasRoom}
use Rattle.fab_blocks.proofs.Readings.{sound_open, begin_outside, begin_has_room, room_of_new}
use Rattle.fab_blocks.proofs.reading.Reading.begin_tile.Goals as goal

pub invariant_of-self : goal.invariant_of-self
invariant_of-self c =
    let fine = sym c.begin_problem.ensures ∙ c.in_default.is in
    let reading = c.args.self.now in
    let outside = begin_outside reading c.args.holder.now c.args.cells.now fine in
    let room = begin_has_room reading c.args.holder.now c.args.cells.now fine in
    let name = c.in_ok-name.ensures ∙ c.cell_at.ensures in
    let new_room = room_of_new reading.types c.new.result c.in_ok-name.name c.new.ensures (subst (λ n. HasRoom reading.types n []) (sym name) room) in
    sound_open _ c.new.result c.self.invariant (ap (λ (r : PlainReading). r.begun) c.self.view_is ∙ outside)
    (subst (λ (r : PlainReading). HasRoom r.types c.new.result.name c.new.result.bels) (sym c.self.view_is) new_room)
