use Rattle.std.proofs.Common.{◌≡◌, ◌<◌, ◌≤◌, length, sym, arith}
use Rattle.fab_frames.specs.Stream.{parts}
use Rattle.fab_frames.proofs.Parts.{word_part_within, part_read, parts_length}
use Rattle.fab_frames.proofs.Streams.{word_taken, words_are, first_wrong, word_behind, refused_at}
use Rattle.fab_frames.proofs.read.read_words.Goals as goal

pub take_word-requires-clause-part : goal.take_word-requires-clause-part
take_word-requires-clause-part c =
    word_part_within c.args.fabric.now c.deref-part-items.result.now c.in_ok-parts.parts.items c.loop-place.place _
    c.deref-part-items.ensures.value c.in_ok-parts.ensures c.loop-place-test.true

pub returns-in-Err-clause-refused : goal.returns-in-Err-clause-refused
returns-in-Err-clause-refused c =
    let at = part_read c.args.fabric.now c.deref-part-items.result.now c.in_ok-parts.parts.items c.loop-place.place _ c.deref-part-items.ensures.value c.in_ok-parts.ensures c.loop-place-test.true in
    let first = first_wrong c.args.fabric.now c.args.words.now c.loop-place.place _ c.word_at.result c.in-Err.reason c.loop-place.bits at (sym c.word_at.ensures) c.in-Err.ensures.refused c.loop-place.invariant in
    refused_at c.args.fabric.now c.args.file.now c.args.words.now c.loop-place.place c.in-Err.reason c.fault_at.result first c.fault_at.ensures

pub loop-place-preserved : goal.loop-place-preserved
loop-place-preserved c =
    let at = part_read c.args.fabric.now c.deref-part-items.result.now c.in_ok-parts.parts.items c.loop-place.place _ c.deref-part-items.ensures.value c.in_ok-parts.ensures c.loop-place-test.true in
    word_taken c.args.fabric.now c.args.words.now c.loop-place.place _ c.word_at.result c.loop-place.bits c.take_word.new.bits at (sym c.word_at.ensures)
    c.in_default.ensures.fine c.in_default.ensures.are_bits c.in_default.ensures.taken c.loop-place.invariant

pub returns-then-words-len-clause-refused : goal.returns-then-words-len-clause-refused
returns-then-words-len-clause-refused c =
    let long : length c.deref-part-items.result.now ≡ length (parts c.args.fabric.now) =
    parts_length c.args.fabric.now c.deref-part-items.result.now c.in_ok-parts.parts.items c.deref-part-items.ensures.value c.in_ok-parts.ensures in
    let all : length (parts c.args.fabric.now) ≤ c.loop-place.place = omega (arith, long, c.loop-place-test.false) in
    let last : c.len-then-words-len.result ≡ length (parts c.args.fabric.now) = omega (arith, long, c.len-then-words-len.ensures, c.deref-part-items.ensures.len) in
    let more : c.len-then-words-len.result < length c.args.words.now = omega (arith, c.if-words-len.true, c.len.ensures, c.len-then-words-len.ensures) in
    let first = word_behind c.args.fabric.now c.args.words.now c.loop-place.place c.len-then-words-len.result c.loop-place.bits last all more c.loop-place.invariant in
    refused_at c.args.fabric.now c.args.file.now c.args.words.now c.len-then-words-len.result _ c.fault_at-then-words-len.result first c.fault_at-then-words-len.ensures

pub returns-clause-stream : goal.returns-clause-stream
returns-clause-stream c =
    let long : length c.deref-part-items.result.now ≡ length (parts c.args.fabric.now) =
    parts_length c.args.fabric.now c.deref-part-items.result.now c.in_ok-parts.parts.items c.deref-part-items.ensures.value c.in_ok-parts.ensures in
    let all : length (parts c.args.fabric.now) ≤ c.loop-place.place = omega (arith, long, c.loop-place-test.false) in
    let no_more : length c.args.words.now ≤ length (parts c.args.fabric.now) = omega (arith, long, c.if-words-len.false, c.len.ensures, c.deref-part-items.ensures.len) in
    words_are c.args.fabric.now c.args.words.now c.loop-place.place c.loop-place.bits (λ k. omega (arith, c.type_inv.words k)) all no_more c.loop-place.invariant
