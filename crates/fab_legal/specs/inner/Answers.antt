-- How parts of the check refuse.
use Rattle.std.specs.Prelude.{◌≡◌, ℕ, List}
use Rattle.fab_legal.specs.declared.broken.CheckFault.{CheckFault}
use Rattle.fab_legal.specs.declared.broken.CheckFault.TheVariants as faults

-- a refusal is of this rule, by an item of this kind, unless memory was refused
abbrev pub Breaks : (rule : ℕ) → (IsItem : List ℕ → Type 0) → CheckFault → Type 0
Breaks rule IsItem (faults.Broken broken) = (broken.rule ≡ rule) × IsItem broken.item
Breaks rule IsItem faults.Memory = Unit {0}
