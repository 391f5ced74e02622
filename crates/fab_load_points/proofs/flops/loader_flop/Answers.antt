use Rattle.std.proofs.Common.{ℕ, Option, Some, eqb, eq-eqb, refl, sym, ap, ◌∙◌, subst}
use Rattle.std.specs.Option.{option_eq}
use Rattle.std.proofs.lemmas.Bool.{false≢true}
use Rattle.fab_equations.specs.Equations.{IsDriven}
use Rattle.fab_load_points.proofs.Stored.{no_flop, loader_is}
use Rattle.fab_load_points.proofs.flops.loader_flop.Goals as goal
use Rattle.fab_load_points.proofs.flops.loader_flop.Goals.{else-next-eq0-via-then-next-eq0+else-eq, else-next-eq0-via-else-next-eq0}

pub returns-in_default : goal.returns-in_default
returns-in_default c = record {
  name = tt;
  flop = tt;
  other = λ text sound are driven p stands l. no_flop text sound c.args.point c.args.driver driven c.in_default.not-Flop p stands l;
}

pub returns-else-next-eq0-clause-other : goal.returns-else-next-eq0-clause-other
returns-else-next-eq0-clause-other c text sound are driven p stands l =
    let is = loader_is text sound c.args.point c.in-Flop.clock c.in-Flop.next (subst (IsDriven text c.args.point) c.in-Flop.is driven) c.args.stream.clock are.clock p stands l in
    elim c.else-next-eq0.branch [
      | else-next-eq0-via-then-next-eq0+else-eq w ↦ (let clock = c.in-Flop.clock in
          absurd (false≢true (sym w.if-eq.false ∙ w.eq.ensures ∙ ap (λ (o : Option ℕ). option_eq eqb o (Some clock)) is.1 ∙ eq-eqb clock clock refl)))
      | else-next-eq0-via-else-next-eq0 w ↦ w.if-next-eq0.false is.0
    ]
