use Rattle.std.proofs.Common.{length, ◌∙◌, ap}
use Rattle.std.specs.Prelude.{unwrap_or, ◌==◌}
use Rattle.fab_lines.proofs.FirstLine.{position_or_length}
use Rattle.fab_lines.proofs.parts.place_or_end.Goals as goal

pub returns-clause-value : goal.returns-clause-value
returns-clause-value c = c.unwrap_or.ensures ∙ ap (λ place. unwrap_or place (length c.args.bytes.now)) c.place.ensures ∙ position_or_length (λ byte. byte == c.args.sought) c.args.bytes.now
