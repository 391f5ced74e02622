use Rattle.std.proofs.Common.{◌∙◌}
use Rattle.fab_paths.proofs.Text.{ok_of_text}
use Rattle.fab_paths.proofs.resolving.is_text.Goals as goal

pub returns : goal.returns
returns c = c.is_ok.ensures.value ∙ ok_of_text c.args.name.now _ _ _ c.from_utf8.ensures.cases
