use Rattle.std.proofs.Common.{◌≡◌, ℕ, ◌<◌, get_or, Some, None, vec_len}
use Rattle.fab_implementation.specs.fab_fabric.specs.declared.wire.Site.{Site}
use Rattle.fab_legal.proofs.lines.all_sites.Given as goal

abbrev pub invariant-loop-number : goal.invariant-loop-number
invariant-loop-number l = record {
  as_many : vec_len l.sites ≡ l.number;
  each : (number : ℕ) (d : Site) → number < l.number → get_or l.noted number None ≡ Some (get_or l.sites.items number d);
}
