use Rattle.std.proofs.Common.{◌≡◌, take}
use Rattle.fab_bits.specs.Keys.{key_names}
use Rattle.fab_matrix.proofs.listed.names_of.Given as goal

-- the names so far are those of the keys so far
abbrev pub invariant-loop-key : goal.invariant-loop-key
invariant-loop-key l = l.names.items ≡ key_names (take l.key-index l.key-items)
