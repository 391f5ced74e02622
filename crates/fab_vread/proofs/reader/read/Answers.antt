use Rattle.std.proofs.Common.{◌≡◌, ◌⊎◌, [], refl, subst, sym, inl, inr, IfOk, Ok, Result}
use Rattle.std.specs.Result.{IfErr}
use Rattle.fab_base.specs.declared.fault.Fault.{Fault}
use Rattle.fab_base.specs.declared.fault.Fault.TheVariants as faults
use Rattle.fab_base.specs.Reading.{Gives}
use Rattle.fab_syntax.specs.declared.tree.Text.{Text}
use Rattle.fab_syntax.specs.Plain.{plain_text}
use Rattle.fab_grammar_defs.specs.Grammar.{SpellsText}
use Rattle.fab_grammar_defs.specs.Printable.{IsPrintableText}
use Rattle.fab_vread.specs.Refusals.{IsVerilogRefusal}
use Rattle.fab_vread.proofs.Feeding.{either_way}
use Rattle.fab_vread.proofs.reader.read.Goals as goal

pub returns-clause-found : goal.returns-clause-found
returns-clause-found c =
    let bytes = c.args.bytes.now in
    elim (either_way c.feed.result (c.feed.ensures.read c.args.file.now [] c.in_ok-reader.ensures) c.feed.ensures.spent) [
      | inl has ↦ c.finish.ensures.found c.args.file.now bytes has
      | inr spent ↦ subst (λ (r : Result Text Fault). IfOk r (λ text. SpellsText 300 128 bytes (plain_text text))) (sym (c.finish.ensures.spent spent)) tt
    ]

pub returns-clause-only : goal.returns-clause-only
returns-clause-only c =
    elim (either_way c.feed.result (c.feed.ensures.read c.args.file.now [] c.in_ok-reader.ensures) c.feed.ensures.spent) [
      | inl has ↦ c.finish.ensures.only c.args.file.now c.args.bytes.now has
      | inr spent ↦ λ modules spells. subst (λ (r : Result Text Fault). Gives plain_text r (Ok modules)) (sym (c.finish.ensures.spent spent)) tt
    ]

pub returns-clause-printable : goal.returns-clause-printable
returns-clause-printable c =
    elim (either_way c.feed.result (c.feed.ensures.read c.args.file.now [] c.in_ok-reader.ensures) c.feed.ensures.spent) [
      | inl has ↦ c.finish.ensures.printable c.args.file.now c.args.bytes.now has
      | inr spent ↦ subst (λ (r : Result Text Fault). IfOk r (λ text. IsPrintableText (plain_text text))) (sym (c.finish.ensures.spent spent)) tt
    ]

pub returns-clause-printed : goal.returns-clause-printed
returns-clause-printed c =
    elim (either_way c.feed.result (c.feed.ensures.read c.args.file.now [] c.in_ok-reader.ensures) c.feed.ensures.spent) [
      | inl has ↦ c.finish.ensures.printed c.args.file.now c.args.bytes.now has
      | inr spent ↦ λ modules printable same. subst (λ (r : Result Text Fault). Gives plain_text r (Ok modules)) (sym (c.finish.ensures.spent spent)) tt
    ]

pub returns-clause-refused : goal.returns-clause-refused
returns-clause-refused c =
    elim (either_way c.feed.result (c.feed.ensures.read c.args.file.now [] c.in_ok-reader.ensures) c.feed.ensures.spent) [
      | inl has ↦ c.finish.ensures.refused c.args.file.now c.args.bytes.now has
      | inr spent ↦ subst (λ (r : Result Text Fault). IfErr r (λ fault. (fault ≡ faults.Memory) ⊎ IsVerilogRefusal c.args.file.now c.args.bytes.now fault)) (sym (c.finish.ensures.spent spent)) (inl refl)
    ]
