-- Which lines of an implementation its nets name.
use Rattle.std.specs.Prelude.{ℕ, ◌<◌, All, length}
use Rattle.fab_netlist.specs.declared.net_id.NetId.{NetId}
use Rattle.fab_netlist.specs.declared.net_id.NetId.TheVariants as nets
use Rattle.fab_implementation.specs.Plain.{PlainImplementation}

-- the net of an input is that of one of so many inputs
abbrev pub NamesInput : (inputs : ℕ) → NetId → Type 0
NamesInput inputs (nets.In place) = place < inputs
NamesInput inputs net = Unit {0}

-- the trees of inputs name lines that are there
abbrev pub InputsAreLines : PlainImplementation → Type 0
InputsAreLines implementation = All (λ tree. NamesInput (length implementation.ins) tree.net) implementation.trees
