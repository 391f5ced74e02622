use Rattle.std.proofs.Common.{◌≡◌, ◌++◌, map, take, false}
use Rattle.std.specs.List.{All}
use Rattle.clap.specs.Words.{rule_of}
use Rattle.fab_words.specs.inner.Matching.{positional_rule}
use Rattle.fab_words.proofs.matching.push_positionals.Given as goal

abbrev pub invariant-loop-name : goal.invariant-loop-name
invariant-loop-name l = record {
  rules : map rule_of l.arguments.items ≡ map rule_of l.initial.arguments.items ++ map (λ name. positional_rule name.now) (take l.name-index l.names);
  local : All (λ argument. argument.global ≡ false) l.initial.arguments.items → All (λ argument. argument.global ≡ false) l.arguments.items;
}
