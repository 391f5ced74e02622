-- Which input pad is the first of its port.
use Rattle.std.specs.Prelude.{◌≡◌, ℕ, List, length, position, slice_index}
use Rattle.std.specs.Option.{option_map}
use Rattle.std.specs.Str.{bytes_eq}
use Rattle.fab_implementation.specs.Plain.{Pad}
use Rattle.fab_texts.specs.Rows.{Word}
use Rattle.fab_impl.specs.FirstPlaces.{first_place}

-- each port of the pads stands once among the names, and at its place the place of the first pad that names it
pub record HasFirsts (pads : List Pad) (names : List Word) (firsts : List ℕ) : Type 0 where
  pub as_many : length firsts ≡ length names
  pub each : (port : Word) → option_map (λ known. slice_index firsts known) (position (bytes_eq port) names) ≡ first_place pads port
