use Rattle.std.proofs.Common.{◌≡◌, map, drop}
use Rattle.fab_words.specs.Arguments.{are_options}
use Rattle.fab_words.specs.inner.Plain.{plain_setting}
use Rattle.fab_words.proofs.arguments.are_options.Given as goal

abbrev pub invariant-loop-place : goal.invariant-loop-place
invariant-loop-place l =
    are_options (map (λ name. name.now) l.names) (map plain_setting (drop l.place l.settings)) ≡ are_options (map (λ name. name.now) l.names) (map plain_setting l.settings)
