use Rattle.std.proofs.Common.{ℕ, Option, ◌∙◌, sym, subst, arith}
use Rattle.fab_syntax.specs.Plain.{plain_text}
use Rattle.fab_load_points.specs.inner.Causes.{IsFirstOf}
use Rattle.fab_load_points.proofs.Names.{not_found_first, no_bits_first, found_first}
use Rattle.fab_load_points.proofs.stream.first_point.Goals as goal

pub returns-in_err-declared : goal.returns-in_err-declared
returns-in_err-declared c i is =
    subst (λ (o : Option ℕ). IsFirstOf (plain_text c.args.equations.now) i.path c.args.name.now o) (sym c.from_residual.ensures)
    (not_found_first (plain_text c.args.equations.now) c.requires.sound c.args.instance i is c.args.name.now (c.in_err-declared.ensures i is))

pub returns-then-bits_of_shape-eq0 : goal.returns-then-bits_of_shape-eq0
returns-then-bits_of_shape-eq0 c i is =
    no_bits_first (plain_text c.args.equations.now) c.requires.sound c.args.instance i is c.args.name.now c.in_ok-declared.declared (c.in_ok-declared.ensures i is)
    (sym c.bits_of_shape.ensures ∙ c.if-bits_of_shape-eq0.true)

pub returns : goal.returns
returns c i is =
    found_first (plain_text c.args.equations.now) c.requires.sound c.args.instance i is c.args.name.now c.in_ok-declared.declared (c.in_ok-declared.ensures i is)
    (omega (arith, c.bits_of_shape.ensures))
