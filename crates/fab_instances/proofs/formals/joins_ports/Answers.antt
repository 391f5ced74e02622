use Rattle.std.proofs.Common.{◌≡◌, ◌∙◌, ◌∷◌, ◌++◌, [], ap, sym, false, true, List, ℕ, length, rules}
use Rattle.fab_instances.specs.Formals.{formal_of, joins_at, joins_new}
use Rattle.fab_bits.specs.Keys.{key_names}
use Rattle.fab_instances.proofs.Fitting.{fits_broken, fits_more, formals_more, joins_here}
use Rattle.fab_instances.proofs.formals.joins_ports.Goals as goal

pub returns-then-not-branch : goal.returns-then-not-branch
returns-then-not-branch c =
    let ports = key_names c.args.ports.now.keys in
    let words = c.args.words.now in
    let at = c.loop-word.word-index in
    let formals = key_names c.loop-word.formals.keys in
    let broken : c.in_ok-joins_new.field-0 ≡ false = search rules in
    let here : joins_at ports words at ≡ false =
    sym (joins_here ports words formals at c.word-item.result c.loop-word-test.true c.word-item.is c.loop-word.invariant.formals)
    ∙ sym (c.in_ok-joins_new.ensures.joins ∙ ap (joins_new ports formals) c.bytes.ensures) ∙ broken in
    sym (fits_broken ports words (length words) at c.loop-word-test.true here)

pub loop-word-preserved : goal.loop-word-preserved
loop-word-preserved c =
    let ports = key_names c.args.ports.now.keys in
    let words = c.args.words.now in
    let at = c.loop-word.word-index in
    let formals = key_names c.loop-word.formals.keys in
    let joined : c.in_ok-joins_new.field-0 ≡ true = c.if-not-branch.false in
    let here : joins_at ports words at ≡ true =
    sym (joins_here ports words formals at c.word-item.result c.loop-word-test.true c.word-item.is c.loop-word.invariant.formals)
    ∙ sym (c.in_ok-joins_new.ensures.joins ∙ ap (joins_new ports formals) c.bytes.ensures) ∙ joined in
    record {
      formals = formals_more words formals (key_names c.joins_new.new.formals.keys) at c.word-item.result c.loop-word-test.true c.word-item.is c.loop-word.invariant.formals
          (c.in_ok-joins_new.ensures.formals joined ∙ ap (λ (word : List ℕ). formals ++ formal_of word ∷ []) c.bytes.ensures);
      fits = fits_more ports words at c.loop-word.invariant.fits here;
    }
