-- The lines of a FASM file spell features, or one of them is refused.
use Rattle.std.proofs.Common.{ℕ, List, inl, inr}
use Rattle.fab_fasm.specs.Fasm.{fasm_judge, features_from}
use Rattle.fab_fasm.specs.Spelled.{SpellsFasm}
use Rattle.fab_fasm.proofs.PartsLaw.{fine_spelled}
use Rattle.fab_lines.specs.Order.{IsFirstFault}
use Rattle.fab_judged_laws.specs.Judged.{IsSpelledOrRefused}
use Rattle.fab_judged_laws.proofs.Texts.{lines_judged}

pub fasm_judged : (file : List ℕ) (lines : List (List ℕ)) → IsSpelledOrRefused (SpellsFasm lines) (IsFirstFault fasm_judge file lines)
fasm_judged file lines = elim (lines_judged fasm_judge file lines) [
  | inl fine ↦ inl (features_from 1 lines, fine_spelled lines fine)
  | inr first ↦ inr first
]
