use Rattle.std.proofs.Common.{not, ap, ◌∙◌, inl, inr, arith}
use Rattle.std.proofs.lemmas.Bool.{cases_eq}
use Rattle.std.proofs.lemmas.List.{length-map}
use Rattle.fab_solutions_laws.specs.fab_ternary_laws_Operators.{tern_at}
use Rattle.fab_ternary.specs.Terns.{plain_tern, is_known}
use Rattle.fab_compiled.proofs.Bits.{all_from, not_all}
use Rattle.fab_compiled.proofs.Written.{plain, read, tells_known, tells_open}
use Rattle.fab_compiled.proofs.whole_values.are_known.Goals as goal

pub loop-bit-preserved : goal.loop-bit-preserved
loop-bit-preserved c k l =
    let bits = plain c.args.bits.now in
    elim (cases_eq k c.loop-bit.bit-index) [
      | inl e ↦ ap (λ n. is_known (tern_at bits n)) e
          ∙ tells_known (tern_at bits c.loop-bit.bit-index) c.is_open.result
          (c.is_open.ensures ∙ ap (λ t. not (is_known t)) (read c.args.bits.now c.loop-bit.bit-index)) c.if-is_open.false
      | inr n ↦ c.loop-bit.invariant k (omega (arith, l, n))
    ]

pub returns-then-is_open : goal.returns-then-is_open
returns-then-is_open c =
    let bits = plain c.args.bits.now in
    not_all bits c.loop-bit.bit-index (omega (arith, c.loop-bit-test.true, length-map c.args.bits.now plain_tern))
    (tells_open (tern_at bits c.loop-bit.bit-index) c.is_open.result
    (c.is_open.ensures ∙ ap (λ t. not (is_known t)) (read c.args.bits.now c.loop-bit.bit-index)) c.if-is_open.true)

pub returns : goal.returns
returns c =
    all_from (plain c.args.bits.now) (λ k l. c.loop-bit.invariant k (omega (arith, l, c.loop-bit-test.false, length-map c.args.bits.now plain_tern)))
