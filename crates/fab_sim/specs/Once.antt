-- States in which nothing stands twice.
use Rattle.std.specs.Prelude.{map}
use Rattle.std.specs.List.{AllByRecursion}
use Rattle.fab_texts.specs.Places.{IsWritable}
use Rattle.fab_state.specs.Plain.{PlainState}
use Rattle.fab_state.specs.Spelled.{AreApart, sites}

-- No pad of an input port and no flip-flop stands twice, and their sites can be written. It is so in each state that is read.
pub record StandsOnce (state : PlainState) : Type 0 where
  pub in_sites : AllByRecursion (λ pad. IsWritable pad.1) state.ins
  pub ff_sites : AllByRecursion (λ register. IsWritable register.0) state.ffs
  pub ins : AreApart (sites state.ins)
  pub ffs : AreApart (map (λ register. register.0) state.ffs)
