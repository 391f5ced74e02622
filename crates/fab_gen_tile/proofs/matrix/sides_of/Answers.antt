use Rattle.std.proofs.Common.{◌≡◌, ◌≤◌, ◌∙◌, List, Bool, length, true, false, ap, sym, get_or, arith}
use Rattle.std.proofs.lemmas.List.{length-map}
use Rattle.std.proofs.lemmas.Option.{slice_get_within}
use Rattle.fab_model.specs.Tiles.{tile_wires, wire_name}
use Rattle.fab_gen_tile.proofs.Placing.{few_names, one_more}
use Rattle.fab_gen_tile.proofs.matrix.sides_of.Goals as goal
use Rattle.fab_gen_tile.proofs.matrix.sides_of.Goals.{then-are_outputs-number+in_ok-push+in_ok-push-2, else-are_outputs-number+in_ok-push-3+in_ok-push-4}

pub overflow_cast-len : goal.overflow_cast-len
overflow_cast-len c =
    let wires = tile_wires c.args.tile.now in
    let all : c.matrix_names-number-end.result ≡ length wires = c.matrix_names-number-end.ensures.count ∙ length-map wires wire_name in
    let within : c.loop-number.number ≤ length wires = omega (arith, all, c.loop-number.auto.number-end) in
    let few = few_names true wires c.loop-number.number within in
    omega (arith, c.len.ensures, c.loop-number.outputs.ok, ap length c.loop-number.invariant.outputs, few, c.loop-number.auto.number-end, c.matrix_names-number-end.type_inv)

pub overflow_cast-len-else-are_outputs-number : goal.overflow_cast-len-else-are_outputs-number
overflow_cast-len-else-are_outputs-number c =
    let wires = tile_wires c.args.tile.now in
    let all : c.matrix_names-number-end.result ≡ length wires = c.matrix_names-number-end.ensures.count ∙ length-map wires wire_name in
    let within : c.loop-number.number ≤ length wires = omega (arith, all, c.loop-number.auto.number-end) in
    let few = few_names false wires c.loop-number.number within in
    omega (arith, c.len-else-are_outputs-number.ensures, c.loop-number.inputs.ok, ap length c.loop-number.invariant.inputs, few, c.loop-number.auto.number-end, c.matrix_names-number-end.type_inv)

pub loop-number-preserved : goal.loop-number-preserved
loop-number-preserved c =
    let wires = tile_wires c.args.tile.now in
    let n = c.loop-number.number in
    let l = c.loop-number in
    let side = ap (λ (xs : List Bool). get_or xs n false) (sym c.requires) in
    elim c.if-are_outputs-number.branch [
      | then-are_outputs-number+in_ok-push+in_ok-push-2 w ↦
          let more = one_more wires n c.in_ok-name.name true l.outputs.items l.inputs.items l.places.items w.len.result c.in_ok-name.ensures (side ∙ w.if-are_outputs-number.true)
          l.invariant.outputs l.invariant.inputs (w.len.ensures ∙ l.outputs.ok.0) l.invariant.as_many l.invariant.each in
          let places = ap (λ v. v.items) w.places-is ∙ w.in_ok-push.ensures.items in
          record {
            inputs = ap (λ v. v.items) w.inputs-is ∙ more.other_is;
            outputs = ap (λ v. v.items) w.outputs-is ∙ w.in_ok-push-2.ensures.items ∙ more.own_is;
            as_many = ap length places ∙ more.as_many;
            each = λ number wire less is. ap (λ xs. get_or xs number 0) places ∙ more.each number wire less is;
          }
      | else-are_outputs-number+in_ok-push-3+in_ok-push-4 w ↦
          let more = one_more wires n c.in_ok-name.name false l.inputs.items l.outputs.items l.places.items w.len-else-are_outputs-number.result c.in_ok-name.ensures (side ∙ w.if-are_outputs-number.false)
          l.invariant.inputs l.invariant.outputs (w.len-else-are_outputs-number.ensures ∙ l.inputs.ok.0) l.invariant.as_many l.invariant.each in
          let places = ap (λ v. v.items) w.places-is ∙ w.in_ok-push-3.ensures.items in
          record {
            inputs = ap (λ v. v.items) w.inputs-is ∙ w.in_ok-push-4.ensures.items ∙ more.own_is;
            outputs = ap (λ v. v.items) w.outputs-is ∙ more.other_is;
            as_many = ap length places ∙ more.as_many;
            each = λ number wire less is. ap (λ xs. get_or xs number 0) places ∙ more.each number wire less is;
          }
    ]

pub returns-clause-places : goal.returns-clause-places
returns-clause-places c =
    let wires = tile_wires c.args.tile.now in
    let l = c.loop-number in
    let all : c.matrix_names-number-end.result ≡ length wires = c.matrix_names-number-end.ensures.count ∙ length-map wires wire_name in
    let end : l.number ≡ length wires = omega (arith, all, c.loop-number-test.false, l.auto.number-end) in
    record {
      as_many = l.invariant.as_many ∙ end;
      each = λ number wire is. l.invariant.each number wire (omega (arith, end, slice_get_within wires number wire is)) is;
    }
