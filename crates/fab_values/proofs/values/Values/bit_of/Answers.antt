use Rattle.std.proofs.Common.{◌≡◌, ◌∙◌, ◌+◌, ◌≤◌, ◌<◌, false, sym, ap, subst, rules, arith, Some, get_or}
use Rattle.std.proofs.lemmas.List.{get_or_default}
use Rattle.fab_meaning.specs.Value.{bit_at}
use Rattle.fab_values.specs.Declarations.{bits_named, found_in, width}
use Rattle.fab_values.specs.Evaluation.{Held}
use Rattle.fab_values.proofs.Named.{not_named, bit_named, bit_past}
use Rattle.fab_values.proofs.values.Values.bit_of.Goals as goal

pub returns-in_default : goal.returns-in_default
returns-in_default c =
    subst (λ (held : Held). false ≡ bit_at (bits_named held.declarations held.bits c.args.name.now) c.args.bit) c.self.view_is
    (sym (ap (λ xs. get_or xs c.args.bit false) (not_named c.self.inside.names.now c.self.inside.bits.items 0 c.args.name.now (sym c.get.ensures ∙ c.in_default.is))))

pub returns-then-bit-from : goal.returns-then-bit-from
returns-then-bit-from c =
    subst (λ (held : Held). false ≡ bit_at (bits_named held.declarations held.bits c.args.name.now) c.args.bit) c.self.view_is
    (bit_past c.self.inside.names.now c.self.inside.bits.items c.args.name.now c.in-Some.local c.args.bit (sym c.get.ensures ∙ c.in-Some.is)
    (omega (arith, c.if-bit-from.true, c.from.ensures, c.bits_of_shape.ensures)))

pub index-requires : goal.index-requires
index-requires c =
    let within : c.args.bit < width c.in-Some.local.shape = omega (arith, c.if-bit-from.false, c.from.ensures, c.bits_of_shape.ensures) in
    let placed = (bit_named c.self.inside.names.now c.self.inside.bits.items c.args.name.now c.in-Some.local c.args.bit (sym c.get.ensures ∙ c.in-Some.is) c.self.invariant within).0 in
    omega (arith, placed, c.from-2.ensures)

pub returns : goal.returns
returns c =
    let within : c.args.bit < width c.in-Some.local.shape = omega (arith, c.if-bit-from.false, c.from.ensures, c.bits_of_shape.ensures) in
    let placed = (bit_named c.self.inside.names.now c.self.inside.bits.items c.args.name.now c.in-Some.local c.args.bit (sym c.get.ensures ∙ c.in-Some.is) c.self.invariant within).0 in
    subst (λ (held : Held). c.index.result.now ≡ bit_at (bits_named held.declarations held.bits c.args.name.now) c.args.bit) c.self.view_is
    (c.index.ensures ∙ (λ j. get_or c.self.inside.bits.items (c.from-2.ensures j + c.args.bit) c.index.result.now) ∙ get_or_default c.self.inside.bits.items (c.in-Some.local.first + c.args.bit) c.index.result.now false placed ∙ (bit_named c.self.inside.names.now c.self.inside.bits.items c.args.name.now c.in-Some.local c.args.bit (sym c.get.ensures ∙ c.in-Some.is) c.self.invariant within).1)
