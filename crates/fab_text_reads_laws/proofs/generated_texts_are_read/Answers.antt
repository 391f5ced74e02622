use Rattle.std.proofs.Common.{All}
use Rattle.fab_gen_tile.specs.Words.{IsNamed}
use Rattle.fab_spelled_fabrics_laws.proofs.Blocks.{names_kept}
use Rattle.fab_spelled_fabrics_laws.proofs.Readings.{spelled_keep}
use Rattle.fab_spelled_fabrics_laws.proofs.Sizes.{HasName, IsSized, sizes_kept}
use Rattle.fab_grammar_defs.proofs.Printed.{texts_form}
use Rattle.fab_drives_laws.specs.fab_fabric_text_defs_Mode.{text_mode}
use Rattle.fab_drives_laws.specs.fab_fabric_text_defs_Texts.{loaders_of, generated_text}
use Rattle.fab_text_reads_laws.specs.Laws.{IsWritten}
use Rattle.fab_text_reads_laws.proofs.Loaders.{loaders_printable}
use Rattle.fab_text_reads_laws.proofs.Texts.{texts_printable}
use Rattle.fab_text_reads_laws.proofs.generated_texts_are_read.Goals as goal

pub returns : goal.returns
returns c = λ files name fabric spelled is tiles.
    let written : All IsWritten fabric.types = λ k d few.
    let sized = spelled_keep HasName IsSized sizes_kept files name fabric spelled k d few in
    record { name = sized.name; named = spelled_keep IsNamed IsNamed names_kept files name fabric spelled k d few; few_bits = sized.few_bits; few_inputs = sized.few_inputs } in
    let mode = text_mode fabric in
    let printable = texts_printable fabric (loaders_of mode fabric.rows) is tiles written (loaders_printable mode fabric.rows) in
    (printable, texts_form (generated_text fabric) printable)
