use Rattle.fab_text_reads_laws.proofs.Texts.{texts_printable}
use Rattle.fab_text_reads_laws.proofs.fabric_texts_are_printable.Goals as goal

pub returns : goal.returns
returns c = texts_printable
