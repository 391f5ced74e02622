use Rattle.std.proofs.Common.{length, sym, subst}
use Rattle.std.proofs.lemmas.Result.{IfOk-weaker}
use Rattle.fab_implementation.specs.OnFabric.{IsOnFabric}
use Rattle.std.specs.Prelude.{max}
use Rattle.std.specs.Str.Lines.{lines}
use Rattle.fab_texts.specs.Rows.{rows_of, words_of}
use Rattle.fab_lines.proofs.Wholes.{gives_whole, gives_fault}
use Rattle.fab_texts.proofs.Formats.{follows}
use Rattle.fab_texts.proofs.Whole.{whole_gives}
use Rattle.fab_implementation.specs.Plain.{PlainImplementation}
use Rattle.fab_texts.specs.Sections.{cut_short}
use Rattle.fab_impl.specs.Lines.{Known, known, take}
use Rattle.fab_implementation.specs.Inputs.{InputsAreLines}
use Rattle.fab_impl.specs.Spelled.{Spells, implementation_of}
use Rattle.fab_impl.proofs.Follows.{keeps}
use Rattle.fab_impl.proofs.Spelled.{whole_spells}
use Rattle.fab_impl.proofs.Stands.{text_stands, is_on_fabric}
use Rattle.fab_impl.proofs.reader.read_impl.Goals as goal

pub returns-clause-said : goal.returns-clause-said
returns-clause-said c =
    gives_whole (follows (known c.args.fabric.now) take (λ (k : Known). cut_short k.last) implementation_of (keeps c.args.fabric.now)) (rows_of c.args.bytes.now) (max 1 (length (lines c.args.bytes.now))) (λ (i : PlainImplementation). i) c.args.file.now c.read.result c.read.ensures

pub returns-clause-refusal : goal.returns-clause-refusal
returns-clause-refusal c =
    gives_fault (follows (known c.args.fabric.now) take (λ (k : Known). cut_short k.last) implementation_of (keeps c.args.fabric.now)) (rows_of c.args.bytes.now) (max 1 (length (lines c.args.bytes.now))) (λ (i : PlainImplementation). i) c.args.file.now c.read.result c.read.ensures

pub returns-clause-reads : goal.returns-clause-reads
returns-clause-reads c =
    whole_gives (follows (known c.args.fabric.now) take (λ (k : Known). cut_short k.last) implementation_of (keeps c.args.fabric.now)) (rows_of c.args.bytes.now) (max 1 (length (lines c.args.bytes.now))) (λ (i : PlainImplementation). i) c.args.file.now c.read.result c.read.ensures

pub returns-clause-on_fabric : goal.returns-clause-on_fabric
returns-clause-on_fabric c =
    let fabric = c.args.fabric.now in
    let rows = rows_of c.args.bytes.now in
    IfOk-weaker c.read.result _ _ (λ it read. subst (IsOnFabric fabric) (sym read.1) (is_on_fabric fabric (known fabric (words_of rows)) (text_stands fabric rows read.0.fine))) (returns-clause-said c)

pub returns-clause-inputs : goal.returns-clause-inputs
returns-clause-inputs c =
    let fabric = c.args.fabric.now in
    let rows = rows_of c.args.bytes.now in
    IfOk-weaker c.read.result _ _ (λ it read. subst InputsAreLines (sym read.1) (text_stands fabric rows read.0.fine).nets) (returns-clause-said c)

pub returns-clause-spells : goal.returns-clause-spells
returns-clause-spells c =
    let fabric = c.args.fabric.now in
    let rows = rows_of c.args.bytes.now in
    IfOk-weaker c.read.result _ _ (λ it read. subst (Spells fabric rows) (sym read.1) (whole_spells fabric rows read.0)) (returns-clause-said c)
