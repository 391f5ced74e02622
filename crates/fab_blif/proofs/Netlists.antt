-- The netlist of a file is well made.
use Rattle.std.proofs.Common.{List, ℕ, ◌≤◌, length, refl, arith}
use Rattle.std.specs.List.{All}
use Rattle.std.proofs.lemmas.List.Elements.{All-from_recursion}
use Rattle.fab_lines.specs.Joined.{joined_lines}
use Rattle.fab_blif_models.proofs.RulesOfLines.{spelled_keeps}
use Rattle.fab_blif_models.specs.Rules.{AreModels}
use Rattle.fab_netlist.specs.Wide.{IsWideMade, PlainWideCover}
use Rattle.fab_netlist.specs.WellMade.{IsWellMade}
use Rattle.fab_blif.specs.Blif.{IsBlif, design_in, models_in, netlist_in, wide_in}
use Rattle.fab_blif.proofs.WellMade.{narrow_covers, narrow_design, wide_design}

keeps : (most : ℕ) → 1 ≤ most → (bytes : List ℕ) → IsBlif most bytes → AreModels most (models_in bytes)
keeps most some bytes is = spelled_keeps most some (joined_lines bytes) is.fine

pub wide_is_made : (bytes : List ℕ) → IsBlif 16 bytes → IsWideMade (wide_in bytes)
wide_is_made bytes is = wide_design 16 (omega arith) (models_in bytes) (keeps 16 (omega arith) bytes is) (design_in bytes) refl is.design

-- and that of a file without wide covers, with tables
pub netlist_is_well_made : (bytes : List ℕ) → IsBlif 4 bytes → IsWellMade (netlist_in bytes)
netlist_is_well_made bytes is = narrow_design (models_in bytes) (keeps 4 (omega arith) bytes is) is.design

pub narrow_is_narrow : (bytes : List ℕ) → IsBlif 4 bytes → All (λ (made : PlainWideCover). length made.inputs ≤ 4) (wide_in bytes).covers
narrow_is_narrow bytes is =
    All-from_recursion (λ (made : PlainWideCover). length made.inputs ≤ 4) (wide_in bytes).covers (narrow_covers (models_in bytes) (keeps 4 (omega arith) bytes is))
