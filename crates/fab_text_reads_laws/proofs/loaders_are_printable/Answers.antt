use Rattle.fab_text_reads_laws.proofs.Loaders.{loader_printable}
use Rattle.fab_text_reads_laws.proofs.loaders_are_printable.Goals as goal

pub returns : goal.returns
returns c = loader_printable
