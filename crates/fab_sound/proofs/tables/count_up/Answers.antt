use Rattle.std.proofs.Common.{ap, ◌∙◌, unwrap_or, arith}
use Rattle.std.specs.Str.{bytes_eq}
use Rattle.std.specs.Map.{lookup}
use Rattle.fab_sound.proofs.Waiting.{counted}
use Rattle.fab_sound.proofs.tables.count_up.Goals as goal

pub returns : goal.returns
returns c = λ other.
    ap (λ es. unwrap_or (lookup (λ k. bytes_eq other k.now) es) 0) c.in_ok-insert.ensures.entries
    ∙ counted c.args.counts.now.entries c.bytes.result c.args.name.now other c.in-Some.count c.bytes.ensures (omega (arith, c.in-Some.ensures, c.count_of.ensures))
