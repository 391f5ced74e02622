use Rattle.std.proofs.Common.{◌∙◌, ap}
use Rattle.fab_paths.specs.Paths.{is_file_name}
use Rattle.fab_paths.proofs.Text.{text_of_name}
use Rattle.fab_paths.proofs.resolving.resolve.Goals as goal

pub returns-clause-text : goal.returns-clause-text
returns-clause-text c = text_of_name c.in_ok-file.file.items c.from.result c.is_file_name-2.result (c.is_file_name-2.ensures ∙ ap is_file_name c.deref.ensures.value) c.if-not-is_file_name-2.false c.from.ensures
