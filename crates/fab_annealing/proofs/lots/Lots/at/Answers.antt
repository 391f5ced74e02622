use Rattle.std.proofs.Common.{◌+◌, ◌*◌, ◌∙◌, ap, sym, arith}
use Rattle.std.specs.List.{slice_get}
use Rattle.fab_annealing.specs.Measured.{numbers_of}
use Rattle.fab_annealing.specs.inner.Standing.{lots_of_kind}
use Rattle.fab_annealing.proofs.Kept.{numbers_read}
use Rattle.fab_annealing.proofs.lots.Lots.at.Goals as goal

pub returns-then-second : goal.returns-then-second
returns-then-second c =
    let number = c.args.column * 32 + c.args.row in
    c.deref.ensures.value ∙ numbers_read c.args.self.now.second.items number c.index.result.now (omega (arith, c.requires.second, c.requires.column, c.requires.row)) c.index.ensures
    ∙ ap (λ kind. numbers_of (slice_get (lots_of_kind c.args.self.now kind) number)) (sym c.if-second.true)

pub returns-else-second : goal.returns-else-second
returns-else-second c =
    let number = c.args.column * 32 + c.args.row in
    c.deref-else-second.ensures.value ∙ numbers_read c.args.self.now.first.items number c.index-else-second.result.now (omega (arith, c.requires.first, c.requires.column, c.requires.row)) c.index-else-second.ensures
    ∙ ap (λ kind. numbers_of (slice_get (lots_of_kind c.args.self.now kind) number)) (sym c.if-second.false)
