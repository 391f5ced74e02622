use Rattle.std.proofs.Common.{sym, ◌∙◌}
use Rattle.fab_blocks.proofs.Readings.{sound_closed}
use Rattle.fab_blocks.proofs.reading.Reading.end_tile.Goals as goal

pub invariant_of-self : goal.invariant_of-self
invariant_of-self c = sound_closed _ c.in-Tile.block c.replace.new.dest c.self.invariant (sym c.replace.ensures.value ∙ c.in-Tile.is) c.replace.ensures.after
