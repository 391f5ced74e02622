use Rattle.std.proofs.Common.{◌≡◌, None, Some, option_map, ap, ◌∙◌, arith}
use Rattle.fab_syntax.specs.Plain.{plain_text}
use Rattle.fab_equations.specs.Instances.{instances}
use Rattle.fab_equations.specs.Equations.{declared_as}
use Rattle.fab_equations.proofs.Numbering.{some_there}
use Rattle.fab_equations.specs.declared.driver.Declared.{Declared}
use Rattle.fab_values.specs.Declarations.{declarations, width}
use Rattle.fab_compiled.proofs.Compiling.{place_room}
use Rattle.fab_compiled.proofs.compiler.place_of.Goals as goal

pub unreachable-requires : goal.unreachable-requires
unreachable-requires c =
    let there = some_there (instances (plain_text c.args.equations.now)) c.args.instance c.requires.instance in
    let found = c.requires.declared there.0 there.1 in
    let none : None ≡ Some (declared_as (plain_text c.args.equations.now) c.args.instance found.0) =
    c.in_default.ensures there.0 there.1 ∙ ap (option_map (declared_as (plain_text c.args.equations.now) c.args.instance)) found.1 in
    cc

pub overflow_sub-result : goal.overflow_sub-result
overflow_sub-result c =
    let there = some_there (instances (plain_text c.args.equations.now)) c.args.instance c.requires.instance in
    let found = c.requires.declared there.0 there.1 in
    let some : Some c.in-Some.declared ≡ Some (declared_as (plain_text c.args.equations.now) c.args.instance found.0) =
    c.in-Some.ensures there.0 there.1 ∙ ap (option_map (declared_as (plain_text c.args.equations.now) c.args.instance)) found.1 in
    let same : c.in-Some.declared ≡ declared_as (plain_text c.args.equations.now) c.args.instance found.0 = cc in
    omega (arith, ap (λ (d : Declared). d.first) same, ap (λ r. r.start) (c.points_of.ensures there.0 there.1))

pub returns-clause-small : goal.returns-clause-small
returns-clause-small c =
    let there = some_there (instances (plain_text c.args.equations.now)) c.args.instance c.requires.instance in
    let i = there.0 in
    let found = c.requires.declared i there.1 in
    let some : Some c.in-Some.declared ≡ Some (declared_as (plain_text c.args.equations.now) c.args.instance found.0) =
    c.in-Some.ensures i there.1 ∙ ap (option_map (declared_as (plain_text c.args.equations.now) c.args.instance)) found.1 in
    let same : c.in-Some.declared ≡ declared_as (plain_text c.args.equations.now) c.args.instance found.0 = cc in
    let room = place_room (declarations i.here) c.args.name.now found.0 found.1 in
    omega (
      arith,
      ap (λ (d : Declared). d.first) same,
      ap (λ (d : Declared). width d.shape) same,
      c.bits_of_shape.ensures,
      ap (λ r. r.start) (c.points_of.ensures i there.1),
      ap (λ r. r.end) (c.points_of.ensures i there.1),
      room,
    )
