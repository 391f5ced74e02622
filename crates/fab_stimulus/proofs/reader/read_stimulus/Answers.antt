use Rattle.std.proofs.Common.{◌∙◌, ℕ, List, [], Bool, Result, length, ap, sym, subst}
use Rattle.std.proofs.lemmas.Result.{IfOk-weaker}
use Rattle.std.specs.Prelude.{max}
use Rattle.std.specs.Str.Lines.{lines}
use Rattle.fab_base.specs.declared.fault.Fault.{Fault}
use Rattle.fab_base.specs.Reading.{Gives}
use Rattle.fab_lines.specs.Order.{ended, judged, placed, read_all}
use Rattle.fab_implementation.specs.Plain.{Pad}
use Rattle.fab_state.specs.Plain.{PlainState}
use Rattle.fab_state.specs.Spelled.{AreApart}
use Rattle.fab_lines.proofs.Wholes.{gives_whole, gives_fault}
use Rattle.fab_texts.specs.Rows.{after_row, rows_of}
use Rattle.fab_texts.proofs.Formats.{follows}
use Rattle.fab_texts.proofs.Whole.{whole_gives}
use Rattle.fab_stimulus.specs.Stimuli.{Known, cut_short, known, ports_of, take}
use Rattle.fab_stimulus.specs.Spelled.{Spells}
use Rattle.fab_stimulus.proofs.Once.{ins_apart}
use Rattle.fab_stimulus.proofs.Taking.{keeps}
use Rattle.fab_stimulus.proofs.Spelling.{whole_spells}
use Rattle.fab_stimulus.proofs.reader.read_stimulus.Goals as goal

-- what is read for these ports
abbrev answer : (file bytes : List ℕ) → List Pad → Result (List (List Bool)) Fault
answer file bytes ins =
    placed file (ended (λ (k : Known). judged (cut_short k) k.lines) (max 1 (length (lines bytes))) (read_all (after_row take) (λ row. row.line) (known (ports_of ins) []) (rows_of bytes)))

pub read-requires-clause-apart : goal.read-requires-clause-apart
read-requires-clause-apart c = subst (λ (ins : List Pad). AreApart (ports_of ins)) (sym (c.deref.ensures.value ∙ ap (λ (state : PlainState). state.ins) c.state.view_is)) (ins_apart c.args.state.now c.requires.apart)

pub returns-clause-says : goal.returns-clause-says
returns-clause-says c =
    let ports = ports_of c.args.state.now.ins in
    let gives : Gives (λ (l : List (List Bool)). l) c.read.result (answer c.args.file.now c.args.bytes.now c.args.state.now.ins) =
    subst (λ (ins : List Pad). Gives (λ (l : List (List Bool)). l) c.read.result (answer c.args.file.now c.args.bytes.now ins)) (c.deref.ensures.value ∙ ap (λ (state : PlainState). state.ins) c.state.view_is) c.read.ensures in
    gives_whole (follows (known ports) take cut_short (λ (k : Known). k.lines) (keeps ports)) (rows_of c.args.bytes.now) (max 1 (length (lines c.args.bytes.now))) (λ (l : List (List Bool)). l) c.args.file.now c.read.result gives

pub returns-clause-refusal : goal.returns-clause-refusal
returns-clause-refusal c =
    let ports = ports_of c.args.state.now.ins in
    let gives : Gives (λ (l : List (List Bool)). l) c.read.result (answer c.args.file.now c.args.bytes.now c.args.state.now.ins) =
    subst (λ (ins : List Pad). Gives (λ (l : List (List Bool)). l) c.read.result (answer c.args.file.now c.args.bytes.now ins)) (c.deref.ensures.value ∙ ap (λ (state : PlainState). state.ins) c.state.view_is) c.read.ensures in
    gives_fault (follows (known ports) take cut_short (λ (k : Known). k.lines) (keeps ports)) (rows_of c.args.bytes.now) (max 1 (length (lines c.args.bytes.now))) (λ (l : List (List Bool)). l) c.args.file.now c.read.result gives

pub returns-clause-reads : goal.returns-clause-reads
returns-clause-reads c =
    let ports = ports_of c.args.state.now.ins in
    let gives : Gives (λ (l : List (List Bool)). l) c.read.result (answer c.args.file.now c.args.bytes.now c.args.state.now.ins) =
    subst (λ (ins : List Pad). Gives (λ (l : List (List Bool)). l) c.read.result (answer c.args.file.now c.args.bytes.now ins)) (c.deref.ensures.value ∙ ap (λ (state : PlainState). state.ins) c.state.view_is) c.read.ensures in
    whole_gives (follows (known ports) take cut_short (λ (k : Known). k.lines) (keeps ports)) (rows_of c.args.bytes.now) (max 1 (length (lines c.args.bytes.now))) (λ (l : List (List Bool)). l) c.args.file.now c.read.result gives

pub returns-clause-spells : goal.returns-clause-spells
returns-clause-spells c =
    let ports = ports_of c.args.state.now.ins in
    let rows = rows_of c.args.bytes.now in
    IfOk-weaker c.read.result _ _ (λ stimulus read. subst (Spells ports rows) (sym read.1) (whole_spells ports (ins_apart c.args.state.now c.requires.apart) rows read.0)) (returns-clause-says c)
