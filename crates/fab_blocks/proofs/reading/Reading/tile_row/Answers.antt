use Rattle.std.proofs.Common.{sym, ap, ◌∙◌, subst}
use Rattle.fab_blocks.specs.Reading.{PlainReading, HasRoom}
use Rattle.fab_blocks.proofs.Readings.{sound_open, room_of_next}
use Rattle.fab_blocks.proofs.reading.Reading.tile_row.Goals as goal

pub invariant_of-self : goal.invariant_of-self
invariant_of-self c =
    let reading = c.args.self.now in
    let block = c.block_row.new.block in
    let room = room_of_next reading.types c.args.old block c.requires.room c.in_ok-said.ensures.name c.in_ok-said.ensures.few_bels in
    sound_open _ block c.self.invariant (ap (λ (r : PlainReading). r.begun) c.self.view_is ∙ c.requires.outside)
    (subst (λ (r : PlainReading). HasRoom r.types block.name block.bels) (sym c.self.view_is) room)
