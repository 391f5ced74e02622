use Rattle.std.proofs.Common.{◌≡◌, [], drop, take}
use Rattle.fab_sound.specs.inner.Checks.{library_text}
use Rattle.fab_sound.specs.inner.Rules.{instances_pass}
use Rattle.fab_sound.proofs.instances.instances_fit.Given as goal

abbrev pub invariant-loop-number : goal.invariant-loop-number
invariant-loop-number l =
    instances_pass (take l.number (library_text l.library)) (drop l.number (library_text l.library)) ≡ instances_pass [] (library_text l.library)
