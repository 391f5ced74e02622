-- The covers of a netlist while they are split.
use Rattle.std.specs.Prelude.{ℕ, ◌+◌, List, [], ◌∷◌, ◌++◌}
use Rattle.fab_netlist.specs.Plain.{PlainCover}
use Rattle.fab_wide.specs.Split.{narrow, taken}

-- the covers so far, and the next new net
pub record PlainNarrowing : Type 0 where
  pub covers : List PlainCover
  pub fresh : ℕ

-- with one cover more
abbrev pub pushed : PlainCover → PlainNarrowing → PlainNarrowing
pushed cover old = record { covers = old.covers ++ cover ∷ []; fresh = old.fresh }

-- with two new nets taken
abbrev pub two_taken : PlainNarrowing → PlainNarrowing
two_taken old = record { covers = old.covers; fresh = 2 + old.fresh }

-- with the covers that stand for a table over so many inputs of a list
abbrev pub narrowed : (line : ℕ) → (inputs : List ℕ) → (count table output : ℕ) → PlainNarrowing → PlainNarrowing
narrowed line inputs count table output old =
    record { covers = old.covers ++ narrow line inputs count table output old.fresh; fresh = taken count table + old.fresh }
