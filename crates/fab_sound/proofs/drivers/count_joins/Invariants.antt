use Rattle.std.proofs.Common.{◌≡◌, ◌+◌, ℕ, List, drop, map}
use Rattle.fab_syntax.specs.Plain.{plain_join}
use Rattle.fab_syntax.specs.Declarations.{module_named, times_joined_out}
use Rattle.fab_sound.specs.inner.Checks.{count_at, library_text}
use Rattle.fab_sound.proofs.drivers.count_joins.Given as goal

-- what is counted so far and what is to come is what there was and all
abbrev pub invariant-loop-join : goal.invariant-loop-join
invariant-loop-join l =
    (other : List ℕ) → times_joined_out (module_named (library_text l.library) l.of) (map plain_join (drop l.join-index l.joins)) other + count_at l.driven other
    ≡ times_joined_out (module_named (library_text l.library) l.of) (map plain_join l.joins) other + count_at l.initial.driven other
