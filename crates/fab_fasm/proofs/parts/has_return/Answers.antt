use Rattle.std.proofs.Common.{◌∙◌, ◌+◌, sym, ap, drop}
use Rattle.fab_fasm.specs.Parts.{has_return}
use Rattle.fab_fasm.proofs.Returns.{return_found, comment_found, byte_passed, nothing_found}
use Rattle.fab_fasm.proofs.parts.has_return.Goals as goal

pub loop-byte-preserved : goal.loop-byte-preserved
loop-byte-preserved c =
    let text = c.args.text.now in
    let place = c.loop-byte.byte-index in
    ap (λ a. has_return a (drop (place + 1) text)) c.is_annotated-annotated.ensures
    ∙ sym (byte_passed c.loop-byte.annotated text place c.loop-byte-test.true (sym c.is_bare.ensures ∙ c.if-is_bare.false) (sym c.is_bare-in-loop-byte.ensures ∙ c.if-is_bare-2.false))
    ∙ c.loop-byte.invariant

pub returns-then-is_bare : goal.returns-then-is_bare
returns-then-is_bare c =
    sym (sym c.loop-byte.invariant ∙ return_found c.loop-byte.annotated c.args.text.now c.loop-byte.byte-index c.loop-byte-test.true (sym c.is_bare.ensures ∙ c.if-is_bare.true))

pub returns-then-is_bare-2 : goal.returns-then-is_bare-2
returns-then-is_bare-2 c =
    sym (sym c.loop-byte.invariant ∙ comment_found c.loop-byte.annotated c.args.text.now c.loop-byte.byte-index c.loop-byte-test.true (sym c.is_bare.ensures ∙ c.if-is_bare.false) (sym c.is_bare-in-loop-byte.ensures ∙ c.if-is_bare-2.true))

pub returns : goal.returns
returns c = sym (sym c.loop-byte.invariant ∙ nothing_found c.loop-byte.annotated c.args.text.now c.loop-byte.byte-index c.loop-byte-test.false)
