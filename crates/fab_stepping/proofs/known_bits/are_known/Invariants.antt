use Rattle.std.proofs.Common.{◌≡◌, ◌<◌, ℕ, true}
use Rattle.fab_ternary.specs.Terns.{is_known}
use Rattle.fab_network.specs.Passes.{kept_tern}
use Rattle.fab_stepping.proofs.known_bits.are_known.Given as goal

abbrev pub invariant-loop-tern : goal.invariant-loop-tern
invariant-loop-tern l = (point : ℕ) → point < l.tern-index → is_known (kept_tern l.terns point) ≡ true
