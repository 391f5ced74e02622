-- How large the module of a loader may be.
use Rattle.std.specs.Prelude.{◌≤◌, max, false, length}
use Rattle.std.specs.List.{All}
use Rattle.fab_syntax.specs.Plain.{PlainItem, PlainModule, wire, reg, assign, latch, clocked, instance}
use Rattle.fab_syntax.specs.Spelling.{module_text}
use Rattle.fab_grammar_defs.specs.Printable.{nested}

-- at most 100 brackets are open in one another in an expression of the item; an instance has no place in a loader
abbrev pub IsShallow : PlainItem → Type 0
IsShallow (wire shape name) = Unit {0}
IsShallow (reg shape name) = Unit {0}
IsShallow (assign target e) = nested false e ≤ 100
IsShallow (latch target gate e) = max (nested false gate) (nested false e) ≤ 100
IsShallow (clocked clock target e) = nested false e ≤ 100
IsShallow (instance module_name name joins) = ⊥

-- the printed module is short, and so is each of its expressions
pub record IsSmall (m : PlainModule) : Type 0 where
  pub shallow : All IsShallow m.items
  pub short : length (module_text m) ≤ 65536
