use Rattle.std.specs.Prelude.{max, length, ℕ, List}
use Rattle.std.specs.Str.Lines.{lines}
use Rattle.std.proofs.lemmas.Result.{IfOk-weaker}
use Rattle.fab_base.specs.Reading.{Gives}
use Rattle.fab_lines.proofs.Wholes.{gives_whole, gives_fault}
use Rattle.fab_rows.specs.Rows.{rows_of}
use Rattle.fab_model.specs.Tiles.{tile_bits}
use Rattle.fab_tables.specs.inner.FollowingConfig.{config_of}
use Rattle.fab_tables.proofs.ConfigRules.{follows_config}
use Rattle.fab_tables.proofs.Tabled.{spelled_table, table_of_rows}
use Rattle.fab_tables.proofs.WholeReads.{whole_gives}
use Rattle.std.proofs.Common.{subst}
use Rattle.fab_tables.proofs.config.read_config_table.Goals as goal

pub returns-clause-spelled : goal.returns-clause-spelled
returns-clause-spelled c =
    let tile = c.args.tile.now in
    let rows = rows_of c.args.bytes.now in
    let last = max 1 (length (lines c.args.bytes.now)) in
    let gives = subst (λ n. Gives (λ (t : List (ℕ × ℕ)). t) c.read.result (config_of n c.args.file.now last rows)) c.bits.ensures c.read.ensures in
    IfOk-weaker c.read.result _ _ (λ table so. spelled_table tile rows table so)
    (gives_whole (follows_config tile) rows last (λ (t : List (ℕ × ℕ)). t) c.args.file.now c.read.result gives)

pub returns-clause-table : goal.returns-clause-table
returns-clause-table c =
    let tile = c.args.tile.now in
    let rows = rows_of c.args.bytes.now in
    let last = max 1 (length (lines c.args.bytes.now)) in
    let gives = subst (λ n. Gives (λ (t : List (ℕ × ℕ)). t) c.read.result (config_of n c.args.file.now last rows)) c.bits.ensures c.read.ensures in
    IfOk-weaker c.read.result _ _ (λ table so. table_of_rows tile rows table so)
    (gives_whole (follows_config tile) rows last (λ (t : List (ℕ × ℕ)). t) c.args.file.now c.read.result gives)

pub returns-clause-reads : goal.returns-clause-reads
returns-clause-reads c =
    let tile = c.args.tile.now in
    let rows = rows_of c.args.bytes.now in
    let last = max 1 (length (lines c.args.bytes.now)) in
    let gives = subst (λ n. Gives (λ (t : List (ℕ × ℕ)). t) c.read.result (config_of n c.args.file.now last rows)) c.bits.ensures c.read.ensures in
    whole_gives (follows_config tile) rows last (λ (t : List (ℕ × ℕ)). t) c.args.file.now c.read.result gives

pub returns-clause-refusal : goal.returns-clause-refusal
returns-clause-refusal c =
    let tile = c.args.tile.now in
    let rows = rows_of c.args.bytes.now in
    let last = max 1 (length (lines c.args.bytes.now)) in
    let gives = subst (λ n. Gives (λ (t : List (ℕ × ℕ)). t) c.read.result (config_of n c.args.file.now last rows)) c.bits.ensures c.read.ensures in
    gives_fault (follows_config tile) rows last (λ (t : List (ℕ × ℕ)). t) c.args.file.now c.read.result gives
