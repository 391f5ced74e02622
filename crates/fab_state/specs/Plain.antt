-- States without where they lie in memory.
use Rattle.std.specs.Prelude.{Bool, List}
use Rattle.fab_fabric.specs.declared.wire.Site.{Site}
use Rattle.fab_implementation.specs.Plain.{Pad}

-- a flip-flop by its site, and the value that it holds
abbrev pub Register : Type 0
Register = Site × Bool

pub record PlainState : Type 0 where
  pub ins : List Pad
  pub outs : List Pad
  pub ffs : List Register
