use Rattle.std.proofs.Common.{◌≡◌, true, take}
use Rattle.std.specs.List.{list_all}
use Rattle.fab_tokens.specs.Literals.{is_word_byte}
use Rattle.fab_vread.proofs.words.word_len.Given as goal

abbrev pub invariant-loop-place : goal.invariant-loop-place
invariant-loop-place l = list_all is_word_byte (take l.place l.bytes) ≡ true
