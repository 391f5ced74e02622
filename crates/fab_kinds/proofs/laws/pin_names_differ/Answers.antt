use Rattle.std.proofs.Common.{rules}
use Rattle.std.specs.Str.{bytes_eq}
use Rattle.std.specs.List.{IsDistinct}
use Rattle.std.proofs.lemmas.Slice.Eq.{bytes_eq-Decides}
use Rattle.std.proofs.lemmas.Map.Made.{AllPairs-from_IsDistinct}
use Rattle.fab_kinds.specs.declared.kind.Kind.{Kind}
use Rattle.fab_kinds.specs.declared.kind.Kind.TheVariants.{Lut4c, Io, Mux8}
use Rattle.fab_kinds.specs.Pins.{pin_names}
use Rattle.fab_kinds.proofs.laws.pin_names_differ.Goals as goal

-- each name is tried against those after it
names_tried : (kind : Kind) → IsDistinct bytes_eq (pin_names kind)
unfolding IsDistinct
names_tried Lut4c = search rules
names_tried Io = search rules
names_tried Mux8 = search rules

pub returns : goal.returns
returns c kind = AllPairs-from_IsDistinct bytes_eq-Decides (pin_names kind) (names_tried kind)
