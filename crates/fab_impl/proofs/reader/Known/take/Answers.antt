use Rattle.std.proofs.Common.{Bor, List, ap, map, ℕ}
use Rattle.std.proofs.lemmas.Result.{err_from_is_err_and}
use Rattle.fab_impl.specs.Lines.{Known}
use Rattle.fab_impl.proofs.Follows.{line_refused}
use Rattle.fab_impl.proofs.reader.Known.take.Goals as goal

pub returns-in_err-check_due : goal.returns-in_err-check_due
returns-in_err-check_due c =
    let p = err_from_is_err_and c.from_residual-in_err-check_due.result c.from_residual-in_err-check_due.ensures.1 in
    rw (p.1, p.2)
    (line_refused c.args.self.now (map (λ (w : Bor (List ℕ)). w.now) c.args.words.now) c.kind_of-kind.result c.part-part.result c.self.inside.last c.self.inside.opening c.in_err-check_due.field-0.0
    (ap (λ (k : Known). k.last) c.self.view_is) (ap (λ (k : Known). k.opening) c.self.view_is) c.kind_of-kind.ensures c.part-part.ensures c.in_ok-check_place.ensures c.in_err-check_due.ensures)
