use Rattle.std.proofs.Common.{◌≡◌, drop, map, take}
use Rattle.std.specs.List.{list_all}
use Rattle.fab_syntax.specs.Plain.{plain_item}
use Rattle.fab_sound.specs.inner.Checks.{known_module, library_text}
use Rattle.fab_sound.specs.inner.Rules.{instance_passes}
use Rattle.fab_sound.proofs.instances.module_fits.Given as goal

abbrev pub invariant-loop-item : goal.invariant-loop-item
invariant-loop-item l =
    list_all (instance_passes (take l.number (library_text l.library)) (known_module l.known)) (map plain_item (drop l.item-index l.known.«module».now.items.items))
    ≡ list_all (instance_passes (take l.number (library_text l.library)) (known_module l.known)) (map plain_item l.known.«module».now.items.items)
