use Rattle.std.proofs.Common.{length, sym, subst}
use Rattle.std.proofs.lemmas.Result.{IfOk-weaker}
use Rattle.std.specs.Prelude.{max}
use Rattle.std.specs.Str.Lines.{lines}
use Rattle.fab_texts.specs.Rows.{rows_of}
use Rattle.fab_lines.proofs.Wholes.{gives_whole, gives_fault}
use Rattle.fab_texts.proofs.Formats.{follows}
use Rattle.fab_texts.proofs.Whole.{whole_gives}
use Rattle.fab_texts.specs.Sections.{cut_short}
use Rattle.fab_state.specs.Lines.{Known, known, take}
use Rattle.fab_state.specs.Plain.{PlainState}
use Rattle.fab_state.specs.Spelled.{Spells, state_of}
use Rattle.fab_state.proofs.Follows.{keeps}
use Rattle.fab_state.proofs.Spelled.{whole_spells, fresh_letters}
use Rattle.fab_state.proofs.reader.read_state.Goals as goal

pub returns-clause-said : goal.returns-clause-said
returns-clause-said c =
    gives_whole (follows known take (λ (k : Known). cut_short k.last) state_of keeps) (rows_of c.args.bytes.now) (max 1 (length (lines c.args.bytes.now))) (λ (s : PlainState). s) c.args.file.now c.read.result c.read.ensures

pub returns-clause-refusal : goal.returns-clause-refusal
returns-clause-refusal c =
    gives_fault (follows known take (λ (k : Known). cut_short k.last) state_of keeps) (rows_of c.args.bytes.now) (max 1 (length (lines c.args.bytes.now))) (λ (s : PlainState). s) c.args.file.now c.read.result c.read.ensures

pub returns-clause-reads : goal.returns-clause-reads
returns-clause-reads c =
    whole_gives (follows known take (λ (k : Known). cut_short k.last) state_of keeps) (rows_of c.args.bytes.now) (max 1 (length (lines c.args.bytes.now))) (λ (s : PlainState). s) c.args.file.now c.read.result c.read.ensures

pub returns-clause-spells : goal.returns-clause-spells
returns-clause-spells c =
    let rows = rows_of c.args.bytes.now in
    IfOk-weaker c.read.result _ _ (λ state read. subst (Spells rows) (sym read.1) (whole_spells rows read.0)) (returns-clause-said c)

pub returns-clause-letters : goal.returns-clause-letters
returns-clause-letters c = IfOk-weaker c.read.result _ _ (λ state spelled. fresh_letters state spelled.fresh) (returns-clause-spells c)
