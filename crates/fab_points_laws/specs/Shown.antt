-- What a source gives its point where points have ternary values, and when a point shows a source.
use Rattle.std.specs.Prelude.{◌≡◌, ℕ, List, map}
use Rattle.fab_bits.specs.Bits.{first_bits}
use Rattle.fab_systems_laws.specs.Ternary.{Tern, known}
use Rattle.fab_syntax.specs.Plain.{PlainModule}
use Rattle.fab_meaning.specs.Points.{Point, Driver, Drives}
use Rattle.fab_meaning.specs.Settled.{Assignment}
use Rattle.fab_netlist.specs.WellMade.{table_bit}
use Rattle.fab_ternary_laws.specs.Operators.{inverse, entry}
use Rattle.fab_ternary_laws.specs.Shown.{Terns, tern_shown}
use Rattle.fab_use_defs.specs.Sources.{Source, always, top_input, flip_flop, shows, inverts, looks_up}

-- the entries of a table of up to four inputs
abbrev pub table_terns : (bits : ℕ) → List Tern
table_terns bits = map known (first_bits 16 (table_bit bits))

abbrev pub tern_source : (inputs held : Assignment) → Terns → Point → Source → Tern
tern_source inputs held t p (always bit) = known bit
tern_source inputs held t p top_input = known (inputs p)
tern_source inputs held t p flip_flop = known (held p)
tern_source inputs held t p (shows q) = t q
tern_source inputs held t p (inverts q) = inverse (t q)
tern_source inputs held t p (looks_up bits qs) = entry (table_terns bits) (map t qs)

-- a driver of the point gives it what its source shows
pub record Shown (text : List PlainModule) (inputs held : Assignment) (t : Terns) (p : Point) (s : Source) : Type 0 where
  pub driver : Driver
  pub drives : Drives text p driver
  pub is : tern_shown text inputs held t p driver ≡ tern_source inputs held t p s
