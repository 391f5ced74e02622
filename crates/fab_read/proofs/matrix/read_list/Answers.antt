use Rattle.std.proofs.Common.{◌≡◌, ◌<◌, ◌∙◌, List, [], All, Some, refl, sym, ap, subst}
use Rattle.std.proofs.lemmas.Result.{err_from_is_err_and}
use Rattle.fab_select.specs.declared.pair.Pair.{Pair as NumberPair}
use Rattle.fab_model.specs.Tiles.{PlainTile, IsPair}
use Rattle.fab_tables.specs.Lists.{Pair}
use Rattle.fab_list_files.specs.Lists.{ReadsListFile, MeetsListFile}
use Rattle.fab_files.proofs.Causes.{cause_weaker}
use Rattle.fab_read.specs.inner.Following.{KnownPairs}
use Rattle.fab_read.specs.Tiles.{known_in, pairs_by_number, ReadsMatrix, of_list, MeetsMatrix, in_list}
use Rattle.fab_read.proofs.Matrices.{numbered_paired}
use Rattle.fab_read.proofs.matrix.read_list.Goals as goal

pub returns-in_err-read_list_file-clause-cause : goal.returns-in_err-read_list_file-clause-cause
returns-in_err-read_list_file-clause-cause g c =
    let residual = err_from_is_err_and c.from_residual-in_err-read_list_file.result c.from_residual-in_err-read_list_file.ensures.1 in
    let told = g.D.Desk.told c.args.desk.now in
    let rose = g.D.Desk.reads c.args.desk.now < g.D.Desk.reads c.read_list_file.new.desk in
    let left = c.args.left in
    let file = c.args.file.now in
    let tile : c.new-listed.result.tile ≡ c.args.tile.now = ap (λ (k : KnownPairs). k.tile) c.new-listed.ensures ∙ c.in_ok-names.ensures in
    let none : c.new-listed.result.pairs ≡ [] = ap (λ (k : KnownPairs). k.pairs) c.new-listed.ensures in
    rw (residual.1, residual.2) (cause_weaker told told rose rose (λ files. MeetsListFile files (known_in c.new-listed.result.tile) left file c.new-listed.result.pairs) (λ files. MeetsMatrix files left c.args.tile.now (Some file))
    c.in_err-read_list_file.field-0.0 refl (λ r. r)
    (λ files is event met.
    in_list c.requires
    (subst (λ (k : PlainTile). MeetsListFile files (known_in k) left file [] event) tile
    (subst (λ (ps : List Pair). MeetsListFile files (known_in c.new-listed.result.tile) left file ps event) none met)))
    c.in_err-read_list_file.ensures.cause)

pub returns-clause-pairs : goal.returns-clause-pairs
returns-clause-pairs g c =
    let tile = c.args.tile.now in
    let pairs = c.read_list_file.new.state.pairs in
    let items : c.in_ok-pairs_by_number.field-0.items ≡ pairs_by_number tile pairs = c.in_ok-pairs_by_number.ensures ∙ (λ j. pairs_by_number (c.in_ok-names.ensures j) ((c.deref.ensures.value ∙ c.in_ok-pairs.ensures) j)) in
    subst (All (IsPair tile)) (sym items) (numbered_paired tile pairs)

pub returns-clause-read : goal.returns-clause-read
returns-clause-read g c = λ files is.
    let left = c.args.left in
    let file = c.args.file.now in
    let pairs = c.read_list_file.new.state.pairs in
    let tile : c.new-listed.result.tile ≡ c.args.tile.now = ap (λ (k : KnownPairs). k.tile) c.new-listed.ensures ∙ c.in_ok-names.ensures in
    let none : c.new-listed.result.pairs ≡ [] = ap (λ (k : KnownPairs). k.pairs) c.new-listed.ensures in
    let listed : ReadsListFile files (known_in c.args.tile.now) left file [] pairs =
    subst (λ (k : PlainTile). ReadsListFile files (known_in k) left file [] pairs) tile
    (subst (λ (ps : List Pair). ReadsListFile files (known_in c.new-listed.result.tile) left file ps pairs) none (c.in_ok-read_list_file.ensures.read files is)) in
    let items : c.in_ok-pairs_by_number.field-0.items ≡ pairs_by_number c.args.tile.now pairs = c.in_ok-pairs_by_number.ensures ∙ (λ j. pairs_by_number (c.in_ok-names.ensures j) ((c.deref.ensures.value ∙ c.in_ok-pairs.ensures) j)) in
    subst (λ (ns : List NumberPair). ReadsMatrix files left c.args.tile.now (Some file) ns) (sym items) (of_list c.requires listed)
