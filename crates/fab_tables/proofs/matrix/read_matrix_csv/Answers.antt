use Rattle.std.specs.Prelude.{max, length, List, Vec}
use Rattle.std.specs.Str.Lines.{lines}
use Rattle.std.proofs.Common.{Global}
use Rattle.std.proofs.lemmas.Result.{IfOk-weaker}
use Rattle.fab_lines.proofs.Wholes.{gives_whole, gives_fault}
use Rattle.fab_rows.specs.Rows.{rows_of}
use Rattle.fab_select.specs.declared.pair.Pair.{Pair}
use Rattle.fab_tables.proofs.MatrixRules.{follows_matrix}
use Rattle.fab_tables.proofs.Wired.{spelled_matrix, pairs_of_tile}
use Rattle.fab_tables.proofs.WholeReads.{whole_gives}
use Rattle.fab_tables.proofs.matrix.read_matrix_csv.Goals as goal

pub returns-clause-spelled : goal.returns-clause-spelled
returns-clause-spelled c =
    let tile = c.args.tile.now in
    let rows = rows_of c.args.bytes.now in
    let last = max 1 (length (lines c.args.bytes.now)) in
    let view : Vec Pair Global → List Pair = λ v. v.items in
    IfOk-weaker c.read.result _ _ (λ pairs so. spelled_matrix tile rows pairs.items so) (gives_whole (follows_matrix tile) rows last view c.args.file.now c.read.result c.read.ensures)

pub returns-clause-pairs : goal.returns-clause-pairs
returns-clause-pairs c =
    let tile = c.args.tile.now in
    let rows = rows_of c.args.bytes.now in
    let last = max 1 (length (lines c.args.bytes.now)) in
    let view : Vec Pair Global → List Pair = λ v. v.items in
    IfOk-weaker c.read.result _ _ (λ pairs so. pairs_of_tile tile rows pairs.items so) (gives_whole (follows_matrix tile) rows last view c.args.file.now c.read.result c.read.ensures)

pub returns-clause-reads : goal.returns-clause-reads
returns-clause-reads c =
    let view : Vec Pair Global → List Pair = λ v. v.items in
    whole_gives (follows_matrix c.args.tile.now) (rows_of c.args.bytes.now) (max 1 (length (lines c.args.bytes.now))) view c.args.file.now c.read.result c.read.ensures

pub returns-clause-refusal : goal.returns-clause-refusal
returns-clause-refusal c =
    let view : Vec Pair Global → List Pair = λ v. v.items in
    gives_fault (follows_matrix c.args.tile.now) (rows_of c.args.bytes.now) (max 1 (length (lines c.args.bytes.now))) view c.args.file.now c.read.result c.read.ensures
