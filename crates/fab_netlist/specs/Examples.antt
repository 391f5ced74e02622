-- Small netlists that the tests use.
use Rattle.std.specs.Prelude.{[], ◌∷◌, codes, None}
use Rattle.fab_netlist.specs.Plain.{PlainNetlist}

-- a latch that takes `e and not q`, and a cover whose output nothing reads
abbrev pub toggle : PlainNetlist
toggle = record {
  nets = codes "e" ∷ codes "q" ∷ codes "d" ∷ codes "x" ∷ [];
  inputs = 0 ∷ [];
  outputs = 1 ∷ [];
  covers = (record { line = 5; inputs = 0 ∷ 1 ∷ []; output = 2; table = 8738 }) ∷ (record { line = 7; inputs = 1 ∷ []; output = 3; table = 21845 }) ∷ [];
  latches = (record { input = 2; output = 1; init = 0 }) ∷ [];
  reset = None;
}

-- two covers that read each other
abbrev pub round : PlainNetlist
round = record {
  nets = codes "a" ∷ codes "b" ∷ [];
  inputs = [];
  outputs = [];
  covers = (record { line = 3; inputs = 1 ∷ []; output = 0; table = 43690 }) ∷ (record { line = 5; inputs = 0 ∷ []; output = 1; table = 43690 }) ∷ [];
  latches = [];
  reset = None;
}

-- the toggle, where the cover whose output nothing reads reads what the latch takes
abbrev pub watched : PlainNetlist
watched = record {
  nets = codes "e" ∷ codes "q" ∷ codes "d" ∷ codes "x" ∷ [];
  inputs = 0 ∷ [];
  outputs = 1 ∷ [];
  covers = (record { line = 5; inputs = 0 ∷ 1 ∷ []; output = 2; table = 8738 }) ∷ (record { line = 7; inputs = 2 ∷ []; output = 3; table = 21845 }) ∷ [];
  latches = (record { input = 2; output = 1; init = 3 }) ∷ [];
  reset = None;
}
