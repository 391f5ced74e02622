use Rattle.std.proofs.Common.{◌≡◌, drop, false}
use Rattle.fab_fasm.specs.Parts.{has_return}
use Rattle.fab_fasm.proofs.parts.has_return.Given as goal

abbrev pub invariant-loop-byte : goal.invariant-loop-byte
invariant-loop-byte l = has_return l.annotated (drop l.byte-index l.text) ≡ has_return false l.text
