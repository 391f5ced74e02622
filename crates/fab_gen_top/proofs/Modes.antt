-- The mode of a text is that of its fabric.
use Rattle.std.proofs.Common.{◌≡◌}
use Rattle.fab_model.specs.declared.mode.Mode.{Mode}
use Rattle.fab_model.specs.Grid.{PlainFabric}
use Rattle.fab_text_loads_laws.specs.fab_fabric_text_defs_Mode.{text_mode}

pub text_mode_told : (fabric : PlainFabric) (mode : Mode) → mode ≡ fabric.mode → mode ≡ text_mode fabric
unfolding text_mode
text_mode_told fabric mode is = is
