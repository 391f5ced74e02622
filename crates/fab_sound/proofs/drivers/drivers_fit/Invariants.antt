use Rattle.std.proofs.Common.{◌≡◌, drop, map}
use Rattle.std.specs.List.{list_all}
use Rattle.fab_sound.specs.inner.Checks.{known_module, library_text}
use Rattle.fab_sound.specs.inner.Rules.{module_is_driven}
use Rattle.fab_sound.proofs.drivers.drivers_fit.Given as goal

abbrev pub invariant-loop-known : goal.invariant-loop-known
invariant-loop-known l =
    list_all (module_is_driven (library_text l.library)) (map known_module (drop l.known-index l.library.modules.items))
    ≡ list_all (module_is_driven (library_text l.library)) (library_text l.library)
