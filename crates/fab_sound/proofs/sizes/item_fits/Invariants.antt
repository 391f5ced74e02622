use Rattle.std.proofs.Common.{◌≡◌, drop}
use Rattle.std.specs.List.{list_all}
use Rattle.fab_sound.specs.inner.Checks.{plain_all, expression_passes, found_width, all_narrow}
use Rattle.fab_sound.proofs.sizes.item_fits.Given as goal

abbrev pub invariant-loop-value : goal.invariant-loop-value
invariant-loop-value l =
    (list_all (expression_passes l.rule l.names) (plain_all (drop l.value-index l.value-items))
    ≡ list_all (expression_passes l.rule l.names) (plain_all l.value-items))
    × (list_all (all_narrow (found_width l.names)) (plain_all (drop l.value-index l.value-items))
    ≡ list_all (all_narrow (found_width l.names)) (plain_all l.value-items))
