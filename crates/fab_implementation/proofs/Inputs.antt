-- The lines that the nets of inputs name.
use Rattle.std.proofs.Common.{◌≡◌, ℕ, ◌<◌, length}
use Rattle.fab_netlist.specs.declared.net_id.NetId.TheVariants as ids
use Rattle.fab_implementation.specs.Plain.{PlainTree, PlainImplementation}
use Rattle.fab_implementation.specs.Inputs.{NamesInput}

-- the input of a tree is one of the lines that name inputs
abbrev pub NamesLine : PlainImplementation → PlainTree → Type 0
NamesLine i tree = (number : ℕ) → tree.net ≡ ids.In number → number < length i.ins

pub names_line : (i : PlainImplementation) (tree : PlainTree) → NamesInput (length i.ins) tree.net → (number : ℕ) → tree.net ≡ ids.In number → number < length i.ins
names_line i tree within number is = rw is at within
