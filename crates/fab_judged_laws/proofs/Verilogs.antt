-- Bytes spell a Verilog text within the limits, or they are refused.
use Rattle.std.proofs.Common.{◌≡◌, ℕ, List, Result, Ok, Err, refl, inl, inr}
use Rattle.fab_base.specs.declared.fault.Fault.{Fault}
use Rattle.fab_syntax.specs.Plain.{PlainModule}
use Rattle.fab_grammar_defs.specs.Grammar.{SpellsText}
use Rattle.fab_vread.specs.inner.Machine.{read_of}
use Rattle.fab_vread.specs.Refusals.{IsVerilogRefusal}
use Rattle.fab_vread.proofs.Accepting.{read_spelled}
use Rattle.fab_vread.proofs.Refusing.{text_refused}
use Rattle.fab_judged_laws.specs.Judged.{IsSpelledOrRefused}

pub verilog_judged : (file bytes : List ℕ) → IsSpelledOrRefused (SpellsText 300 128 bytes) (IsVerilogRefusal file bytes)
verilog_judged file bytes = by_answer (read_of file bytes) refl
  where
    by_answer : (answer : Result (List PlainModule) Fault) → read_of file bytes ≡ answer → IsSpelledOrRefused (SpellsText 300 128 bytes) (IsVerilogRefusal file bytes)
    by_answer (Ok modules) is = inl (modules, read_spelled file bytes modules is)
    by_answer (Err fault) is = inr (fault, text_refused file bytes fault is)
