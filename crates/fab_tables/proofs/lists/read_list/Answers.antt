use Rattle.std.specs.Prelude.{max, length}
use Rattle.std.specs.Str.Lines.{lines}
use Rattle.std.proofs.lemmas.Result.{IfOk-weaker}
use Rattle.fab_lines.proofs.Wholes.{gives_whole, gives_fault}
use Rattle.fab_rows.specs.Rows.{rows_of}
use Rattle.fab_tables.proofs.Spelled.{follows_list}
use Rattle.fab_tables.proofs.WholeReads.{whole_gives}
use Rattle.fab_tables.proofs.lists.read_list.Goals as goal

pub returns-clause-spelled : goal.returns-clause-spelled
returns-clause-spelled c =
    IfOk-weaker c.read.result _ _ (λ list read. record { whole = read.0; in_order = read.1 })
    (gives_whole (follows_list c.args.file.now) (rows_of c.args.bytes.now) (max 1 (length (lines c.args.bytes.now))) (λ list. list.items) c.args.file.now c.read.result c.read.ensures)

pub returns-clause-reads : goal.returns-clause-reads
returns-clause-reads c =
    whole_gives (follows_list c.args.file.now) (rows_of c.args.bytes.now) (max 1 (length (lines c.args.bytes.now))) (λ list. list.items) c.args.file.now c.read.result c.read.ensures

pub returns-clause-refusal : goal.returns-clause-refusal
returns-clause-refusal c =
    gives_fault (follows_list c.args.file.now) (rows_of c.args.bytes.now) (max 1 (length (lines c.args.bytes.now))) (λ list. list.items) c.args.file.now c.read.result c.read.ensures
