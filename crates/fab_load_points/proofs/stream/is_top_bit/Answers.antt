use Rattle.std.proofs.Common.{[], arith, sym, ◌∙◌}
use Rattle.std.proofs.lemmas.Bool.{false≢true}
use Rattle.fab_syntax.specs.Plain.{plain_text}
use Rattle.fab_meaning.specs.Points.{point}
use Rattle.fab_equations.specs.Instances.{instances}
use Rattle.fab_equations.proofs.Numbering.{some_there}
use Rattle.fab_load_points.proofs.Names.{first_declared, no_instance, point_declared}
use Rattle.fab_load_points.proofs.TopBits.{bit_within, not_declared, within_bit}
use Rattle.fab_load_points.proofs.stream.is_top_bit.Goals as goal

pub returns-then-instances-eq0 : goal.returns-then-instances-eq0
returns-then-instances-eq0 c =
    let text = plain_text c.args.equations.now in
    let name = c.args.name.now in (
      λ t. absurd (false≢true t),
      λ top.
          absurd (false≢true (sym (no_instance text c.requires (sym c.instances.ensures ∙ c.if-instances-eq0.true) name)
          ∙ first_declared text c.requires (point [] name top.0) (point_declared text c.requires c.args.number (point [] name top.0) top.1))),
    )

pub returns-in-Some : goal.returns-in-Some
returns-in-Some c =
    let text = plain_text c.args.equations.now in
    let there = some_there (instances text) 0 (omega (arith, c.instances.ensures)) in
    let some = c.in-Some.ensures there.0 there.1 in (
      λ t.
          let within = c.is_bit.ensures.0 t in within_bit text c.requires there.0 there.1 c.args.name.now c.in-Some.declared some c.args.number within.0 within.1,
      λ top. c.is_bit.ensures.1 (bit_within text c.requires there.0 there.1 c.args.name.now c.in-Some.declared some c.args.number top),
    )

pub returns-in-None : goal.returns-in-None
returns-in-None c =
    let text = plain_text c.args.equations.now in
    let there = some_there (instances text) 0 (omega (arith, c.instances.ensures)) in
    (λ t. absurd (false≢true t), λ top. absurd (not_declared text c.requires there.0 there.1 c.args.name.now (c.in-None.ensures there.0 there.1) c.args.number top))
