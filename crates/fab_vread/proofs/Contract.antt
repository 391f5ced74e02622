-- What a reader's answer says of the bytes.
use Rattle.std.proofs.Common.{◌≡◌, ◌⊎◌, inl, inr, refl, ℕ, List, subst, Result, Ok, Err, IfOk}
use Rattle.std.specs.Result.{IfErr}
use Rattle.fab_base.specs.declared.fault.Fault.{Fault}
use Rattle.fab_base.specs.declared.fault.Fault.TheVariants as faults
use Rattle.fab_base.specs.Reading.{Gives}
use Rattle.fab_syntax.specs.declared.tree.Text.{Text}
use Rattle.fab_syntax.specs.Plain.{PlainModule, plain_text}
use Rattle.fab_syntax.specs.Spelling.{text_bytes}
use Rattle.fab_grammar_defs.specs.Grammar.{SpellsText}
use Rattle.fab_grammar_defs.specs.Printable.{IsPrintableText}
use Rattle.fab_vread.specs.inner.Machine.{read_of}
use Rattle.fab_vread.specs.Refusals.{IsVerilogRefusal}
use Rattle.fab_vread.proofs.Accepting.{read_spelled, spelled_read, printed_read}
use Rattle.fab_vread.proofs.Printable.{spelled_printable}
use Rattle.fab_vread.proofs.Refusing.{text_refused}

pub found_of : (file bytes : List ℕ) (result : Result Text Fault) → Gives plain_text result (read_of file bytes) →
    IfOk result (λ text. SpellsText 300 128 bytes (plain_text text))
found_of file bytes (Ok text) h = read_spelled file bytes (plain_text text) h
found_of file bytes (Err fault) h = tt

pub only_of : (file bytes : List ℕ) (result : Result Text Fault) → Gives plain_text result (read_of file bytes) →
    (modules : List PlainModule) → SpellsText 300 128 bytes modules → Gives plain_text result (Ok modules)
only_of file bytes result h modules s = subst (λ given. Gives plain_text result given) (spelled_read file bytes modules s) h

pub printable_of : (file bytes : List ℕ) (result : Result Text Fault) → Gives plain_text result (read_of file bytes) →
    IfOk result (λ text. IsPrintableText (plain_text text))
printable_of file bytes (Ok text) h = spelled_printable bytes (plain_text text) (read_spelled file bytes (plain_text text) h)
printable_of file bytes (Err fault) h = tt

pub printed_of : (file bytes : List ℕ) (result : Result Text Fault) → Gives plain_text result (read_of file bytes) →
    (modules : List PlainModule) → IsPrintableText modules → bytes ≡ text_bytes modules → Gives plain_text result (Ok modules)
printed_of file bytes result h modules printable same =
    subst (λ given. Gives plain_text result given) (printed_read file bytes modules printable same) h

abbrev Told : (file bytes : List ℕ) → Fault → Type 0
Told file bytes fault = (fault ≡ faults.Memory) ⊎ IsVerilogRefusal file bytes fault

pub refused_of : (file bytes : List ℕ) (result : Result Text Fault) → Gives plain_text result (read_of file bytes) → IfErr result (Told file bytes)
refused_of file bytes (Ok text) h = tt
refused_of file bytes (Err faults.Memory) h = inl refl
refused_of file bytes (Err faults.Usage) h = inr (text_refused file bytes faults.Usage h)
refused_of file bytes (Err (faults.Missing a)) h = inr (text_refused file bytes (faults.Missing a) h)
refused_of file bytes (Err (faults.TooLong a)) h = inr (text_refused file bytes (faults.TooLong a) h)
refused_of file bytes (Err (faults.Malformed a b)) h = inr (text_refused file bytes (faults.Malformed a b) h)
refused_of file bytes (Err (faults.Unsupported a b)) h = inr (text_refused file bytes (faults.Unsupported a b) h)
refused_of file bytes (Err (faults.Limit a b c d)) h = inr (text_refused file bytes (faults.Limit a b c d) h)
refused_of file bytes (Err (faults.Short a b c)) h = inr (text_refused file bytes (faults.Short a b c) h)
refused_of file bytes (Err (faults.NoPath a b c)) h = inr (text_refused file bytes (faults.NoPath a b c) h)
refused_of file bytes (Err (faults.Overused a b c d)) h = inr (text_refused file bytes (faults.Overused a b c d) h)
refused_of file bytes (Err (faults.Illegal a b)) h = inr (text_refused file bytes (faults.Illegal a b) h)
refused_of file bytes (Err (faults.ReadFault a)) h = inr (text_refused file bytes (faults.ReadFault a) h)
refused_of file bytes (Err (faults.WriteFault a)) h = inr (text_refused file bytes (faults.WriteFault a) h)
