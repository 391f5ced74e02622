use Rattle.std.proofs.Common.{◌∙◌, ap, sym}
use Rattle.std.specs.List.{flat_map}
use Rattle.std.proofs.lemmas.Result.{IfErr-weaker, err_from_is_err_and}
use Rattle.fab_frames.specs.Bytes.{word_bytes}
use Rattle.fab_flow.proofs.BitFeaturesMade.{bytes_spell, cut_refused, few_words, words_refused}
use Rattle.fab_flow.proofs.bit_features.bits_of_bytes.Goals as goal

pub returns-in_err-words-clause-refused : goal.returns-in_err-words-clause-refused
returns-in_err-words-clause-refused c =
    let residual = err_from_is_err_and c.from_residual.result c.from_residual.ensures.1 in
    rw (residual.1, residual.2) (cut_refused c.args.fabric.now c.args.file.now c.args.bytes.now c.in_err-words.field-0.0 c.in_err-words.ensures.refused)

pub bits_of_words-requires : goal.bits_of_words-requires
bits_of_words-requires c =
    few_words c.args.bytes.now c.deref.result.now (c.in_ok-words.ensures.bytes ∙ ap (flat_map word_bytes) (sym c.deref.ensures.value)) c.requires

pub returns-clause-spelled : goal.returns-clause-spelled
returns-clause-spelled c =
    bytes_spell c.args.fabric.now c.args.bytes.now c.deref.result.now c.bits_of_words.result
    (record { fit = c.bits_of_words.ensures.fit; bytes_are = c.in_ok-words.ensures.bytes ∙ ap (flat_map word_bytes) (sym c.deref.ensures.value) })
    c.bits_of_words.ensures.are c.bits_of_words.ensures.stream

pub returns-clause-refused : goal.returns-clause-refused
returns-clause-refused c =
    IfErr-weaker c.bits_of_words.result _ _
    (λ fault refused. words_refused c.args.fabric.now c.args.file.now c.args.bytes.now c.deref.result.now fault
    (record { fit = c.bits_of_words.ensures.fit; bytes_are = c.in_ok-words.ensures.bytes ∙ ap (flat_map word_bytes) (sym c.deref.ensures.value) }) refused)
    c.bits_of_words.ensures.refused
