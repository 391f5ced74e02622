use Rattle.std.proofs.Common.{length, List, subst, sym}
use Rattle.std.proofs.lemmas.Result.{IfOk-weaker}
use Rattle.std.specs.Prelude.{max}
use Rattle.std.specs.Str.Lines.{lines}
use Rattle.fab_texts.specs.Rows.{rows_of}
use Rattle.fab_lines.proofs.Wholes.{gives_whole, gives_fault}
use Rattle.fab_texts.proofs.Formats.{follows}
use Rattle.fab_texts.proofs.Whole.{whole_gives}
use Rattle.fab_implementation.specs.Plain.{Pad}
use Rattle.fab_state.specs.Constraints.{Fixing, SpellsFixings, data_ports, fixed, take_fixing, nothing_left}
use Rattle.fab_state.proofs.Fixings.{keeps_fixing}
use Rattle.fab_state.proofs.FixingsBack.{spelled_by_reading}
use Rattle.fab_state.proofs.constraints.read_pcf.Goals as goal

pub returns-clause-spelled : goal.returns-clause-spelled
returns-clause-spelled c =
    let allowed = data_ports c.args.netlist.now in
    gives_whole (follows (fixed c.args.fabric.now allowed) take_fixing nothing_left (λ (k : Fixing). k.pads) (keeps_fixing c.args.fabric.now allowed)) (rows_of c.args.bytes.now) (max 1 (length (lines c.args.bytes.now))) (λ (p : List Pad). p) c.args.file.now c.read.result c.read.ensures

pub returns-clause-refusal : goal.returns-clause-refusal
returns-clause-refusal c =
    let allowed = data_ports c.args.netlist.now in
    gives_fault (follows (fixed c.args.fabric.now allowed) take_fixing nothing_left (λ (k : Fixing). k.pads) (keeps_fixing c.args.fabric.now allowed)) (rows_of c.args.bytes.now) (max 1 (length (lines c.args.bytes.now))) (λ (p : List Pad). p) c.args.file.now c.read.result c.read.ensures

pub returns-clause-reads : goal.returns-clause-reads
returns-clause-reads c =
    let allowed = data_ports c.args.netlist.now in
    whole_gives (follows (fixed c.args.fabric.now allowed) take_fixing nothing_left (λ (k : Fixing). k.pads) (keeps_fixing c.args.fabric.now allowed)) (rows_of c.args.bytes.now) (max 1 (length (lines c.args.bytes.now))) (λ (p : List Pad). p) c.args.file.now c.read.result c.read.ensures

pub returns-clause-spells : goal.returns-clause-spells
returns-clause-spells c =
    let fabric = c.args.fabric.now in
    let allowed = data_ports c.args.netlist.now in
    let rows = rows_of c.args.bytes.now in
    IfOk-weaker c.read.result _ _ (λ fixed_pads read. subst (SpellsFixings fabric allowed rows) (sym read.1) (spelled_by_reading fabric allowed rows read.0)) (returns-clause-spelled c)
