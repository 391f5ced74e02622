use Rattle.std.proofs.Common.{◌∙◌, sym, eq-eqb, length, refl}
use Rattle.std.specs.Str.Lossy.{utf8_valid_len}
use Rattle.fab_tables.proofs.Longs.{whole_utf8}
use Rattle.fab_tables.proofs.lists.read_include.Goals as goal

pub returns : goal.returns
returns c =
    let whole = whole_utf8 _ _ c.args.path.now c.from_utf8.result (sym c.is_err.ensures.value ∙ c.if-is_err.false) c.from_utf8.ensures.cases in
    let named = c.in_ok-of.ensures in
    rw (eq-eqb (utf8_valid_len c.args.path.now) (length c.args.path.now) whole, named) refl
