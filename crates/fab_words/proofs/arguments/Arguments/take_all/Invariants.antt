use Rattle.std.proofs.Common.{◌≡◌, map, option_copied, string_bytes, None, drop}
use Rattle.fab_words.specs.Arguments.{arguments_of}
use Rattle.fab_words.specs.inner.Plain.{plain_arguments}
use Rattle.fab_words.specs.inner.Taking.{behind}
use Rattle.fab_words.proofs.arguments.Arguments.take_all.Given as goal

abbrev pub invariant-loop-word : goal.invariant-loop-word
invariant-loop-word l =
    behind (plain_arguments l.self) (arguments_of (option_copied l.named) (map string_bytes (drop l.word-index l.words)))
    ≡ behind (plain_arguments l.initial.self) (arguments_of None (map string_bytes l.words))
