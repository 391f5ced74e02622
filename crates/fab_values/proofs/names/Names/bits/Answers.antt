use Rattle.std.proofs.Common.{◌≡◌, ◌∙◌, sym, ap, ◌+◌, zero-add}
use Rattle.fab_values.specs.Declarations.{bits_of}
use Rattle.fab_values.proofs.Entries.{bits_to_end}
use Rattle.fab_values.proofs.names.Names.bits.Goals as goal

pub returns : goal.returns
returns c = bits_to_end 0 _ c.self.inside.places.entries c.self.invariant ∙ zero-add _ ∙ ap bits_of c.self.view_is
