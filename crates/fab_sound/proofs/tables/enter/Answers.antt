use Rattle.std.proofs.Common.{ap, ◌∙◌, ℕ, List, Some, if◌then◌else◌}
use Rattle.std.specs.Str.{bytes_eq}
use Rattle.std.specs.Map.{lookup}
use Rattle.fab_sound.specs.inner.Checks.{found}
use Rattle.fab_sound.proofs.Waiting.{lookup_inserted}
use Rattle.fab_sound.proofs.tables.enter.Goals as goal

pub returns-clause-gives : goal.returns-clause-gives
returns-clause-gives c = λ new other.
    ap (lookup (λ k. bytes_eq other k.now)) c.in_ok-insert.ensures.entries
    ∙ lookup_inserted c.args.numbers.now.entries c.bytes-2.result c.args.number other
    ∙ ap (λ (n : List ℕ). if bytes_eq other n then Some c.args.number else found c.args.numbers.now other) c.bytes-2.ensures
