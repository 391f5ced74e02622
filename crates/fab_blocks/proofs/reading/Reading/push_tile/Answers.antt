use Rattle.std.proofs.Common.{sym, ap, ◌∙◌, subst}
use Rattle.fab_blocks.specs.Reading.{PlainReading, HasRoom}
use Rattle.fab_blocks.proofs.Readings.{sound_type}
use Rattle.fab_blocks.proofs.reading.Reading.push_tile.Goals as goal

pub invariant_of-self-2 : goal.invariant_of-self-2
invariant_of-self-2 c =
    sound_type _ c.push.new.self.items c.args.tile c.self.invariant (ap (λ (r : PlainReading). r.begun) c.self.view_is ∙ c.requires.outside)
    (subst (λ (r : PlainReading). HasRoom r.types c.args.tile.name c.args.tile.bels) (sym c.self.view_is) c.requires.room) c.in_ok-push.ensures.items
