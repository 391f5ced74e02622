use Rattle.std.proofs.Common.{◌≡◌, ◌++◌, drop, map}
use Rattle.std.specs.List.{flat_map}
use Rattle.fab_syntax.specs.Plain.{PlainJoin, plain_join}
use Rattle.fab_syntax.specs.Sound.{joined_expressions}
use Rattle.fab_sound.specs.inner.Checks.{plain_all}
use Rattle.fab_sound.proofs.expressions.put_joined.Given as goal

abbrev pub invariant-loop-join : goal.invariant-loop-join
invariant-loop-join l =
    plain_all l.found.items ++ flat_map (λ (join : PlainJoin). joined_expressions join.to) (map plain_join (drop l.join-index l.joins))
    ≡ plain_all l.initial.found.items ++ flat_map (λ (join : PlainJoin). joined_expressions join.to) (map plain_join l.joins)
