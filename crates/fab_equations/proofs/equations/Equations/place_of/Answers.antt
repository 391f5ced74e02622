use Rattle.std.proofs.Common.{IfNone, sym, subst, arith}
use Rattle.std.proofs.lemmas.Option.{slice_get_within}
use Rattle.fab_syntax.specs.Plain.{plain_text}
use Rattle.fab_equations.specs.Instances.{instances}
use Rattle.fab_equations.specs.Equations.{IsNoPlace}
use Rattle.fab_equations.proofs.Found.{last_fails, not_found_no_place, place_is, place_fits, no_place}
use Rattle.fab_equations.proofs.equations.Equations.place_of.Goals as goal

pub returns-in_err-local-clause-absent : goal.returns-in_err-local-clause-absent
returns-in_err-local-clause-absent c =
    let none = c.in_err-local.ensures in
    subst (λ o. IfNone o (IsNoPlace (plain_text c.args.self.now) c.args.name.now c.args.bit)) (sym c.from_residual.ensures)
    (not_found_no_place (plain_text c.args.self.now) none.0 c.args.name.now c.args.bit none.1)

pub local-requires : goal.local-requires
local-requires c =
    let read = c.in_ok-local.ensures.0 in
    slice_get_within (instances (plain_text c.args.self.now)) c.in_ok-local.local.instance read.i read.is

pub returns-in_err-declared-clause-absent : goal.returns-in_err-declared-clause-absent
returns-in_err-declared-clause-absent c =
    let read = c.in_ok-local.ensures.0 in
    let none = last_fails (plain_text c.args.self.now) c.args.name.now c.in_ok-local.local.instance c.in_ok-local.local.name.now read c.in_ok-local.ensures.1 (c.in_err-declared.ensures read.i read.is) in
    subst (λ o. IfNone o (IsNoPlace (plain_text c.args.self.now) c.args.name.now c.args.bit)) (sym c.from_residual-in_err-declared.ensures)
    (not_found_no_place (plain_text c.args.self.now) read.sound c.args.name.now c.args.bit none)

pub overflow_add-result : goal.overflow_add-result
overflow_add-result c =
    let read = c.in_ok-local.ensures.0 in
    let fits = place_fits (plain_text c.args.self.now) c.args.name.now c.in_ok-local.local.instance c.in_ok-local.local.name.now read c.in_ok-declared.declared
    (c.in_ok-declared.ensures read.i read.is) c.args.bit (omega (arith, c.bits_of_shape.ensures)) in
    omega (arith, fits)

pub returns-then-bit-bits_of_shape-clause-found : goal.returns-then-bit-bits_of_shape-clause-found
returns-then-bit-bits_of_shape-clause-found c =
    let read = c.in_ok-local.ensures.0 in
    place_is (plain_text c.args.self.now) c.args.name.now c.in_ok-local.local.instance c.in_ok-local.local.name.now read c.in_ok-declared.declared (c.in_ok-declared.ensures read.i read.is)
    c.args.bit (omega (arith, c.bits_of_shape.ensures))

pub returns-else-bit-bits_of_shape-clause-absent : goal.returns-else-bit-bits_of_shape-clause-absent
returns-else-bit-bits_of_shape-clause-absent c =
    let read = c.in_ok-local.ensures.0 in
    no_place (plain_text c.args.self.now) c.args.name.now c.in_ok-local.local.instance c.in_ok-local.local.name.now read c.in_ok-declared.declared (c.in_ok-declared.ensures read.i read.is)
    c.args.bit c.in_ok-local.ensures.1 (omega (arith, c.bits_of_shape.ensures))
