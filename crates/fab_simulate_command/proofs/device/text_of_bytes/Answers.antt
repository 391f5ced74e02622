use Rattle.std.proofs.Common.{◌≡◌, ◌⊎◌, [], refl, subst, sym, inl, inr, IfOk, Result}
use Rattle.std.specs.Result.{IfErr}
use Rattle.fab_base.specs.declared.fault.Fault.{Fault}
use Rattle.fab_base.specs.declared.fault.Fault.TheVariants as faults
use Rattle.fab_syntax.specs.declared.tree.Text.{Text}
use Rattle.fab_syntax.specs.Plain.{plain_text}
use Rattle.fab_grammar_defs.specs.Grammar.{SpellsText}
use Rattle.fab_vread.specs.Refusals.{IsVerilogRefusal}
use Rattle.fab_vread.proofs.Feeding.{either_way}
use Rattle.fab_simulate_command.proofs.device.text_of_bytes.Goals as goal

pub returns-clause-spelled : goal.returns-clause-spelled
returns-clause-spelled c =
    let bytes = c.args.bytes.now in
    elim (either_way c.feed_pieces.result (c.feed_pieces.ensures.read c.args.file.now [] c.in_ok-reader.ensures) c.feed_pieces.ensures.spent) [
      | inl has ↦ c.finish.ensures.found c.args.file.now bytes has
      | inr spent ↦ subst (λ (r : Result Text Fault). IfOk r (λ text. SpellsText 300 128 bytes (plain_text text))) (sym (c.finish.ensures.spent spent)) tt
    ]

pub returns-clause-refused : goal.returns-clause-refused
returns-clause-refused c =
    let file = c.args.file.now in
    let bytes = c.args.bytes.now in
    elim (either_way c.feed_pieces.result (c.feed_pieces.ensures.read file [] c.in_ok-reader.ensures) c.feed_pieces.ensures.spent) [
      | inl has ↦ c.finish.ensures.refused file bytes has
      | inr spent ↦ subst (λ (r : Result Text Fault). IfErr r (λ fault. (fault ≡ faults.Memory) ⊎ IsVerilogRefusal file bytes fault)) (sym (c.finish.ensures.spent spent)) (inl refl)
    ]
