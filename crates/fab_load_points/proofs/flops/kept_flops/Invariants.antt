use Rattle.std.proofs.Common.{◌≡◌, [], length}
use Rattle.fab_syntax.specs.Plain.{plain_text}
use Rattle.fab_load_points.proofs.Rounds.{IsRound}
use Rattle.fab_load_points.proofs.flops.kept_flops.Given as goal

abbrev pub invariant-loop-flop : goal.invariant-loop-flop
invariant-loop-flop l = record {
  long : length l.search.statuses.items ≡ length l.fn.search.statuses.items;
  rest : l.search.stack.items ≡ [];
  round : IsRound (plain_text l.equations) l.flops l.flop-index l.kept.items l.search.statuses.items;
}
