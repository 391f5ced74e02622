use Rattle.std.proofs.Common.{◌≡◌, drop}
use Rattle.std.specs.List.{list_all}
use Rattle.fab_sound.specs.inner.Checks.{module_passes, module_narrow}
use Rattle.fab_sound.proofs.sizes.modules_fit.Given as goal

abbrev pub invariant-loop-known : goal.invariant-loop-known
invariant-loop-known l =
    (list_all (module_passes l.rule) (drop l.known-index l.known-items) ≡ list_all (module_passes l.rule) l.known-items)
    × (list_all module_narrow (drop l.known-index l.known-items) ≡ list_all module_narrow l.known-items)
