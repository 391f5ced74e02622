use Rattle.std.proofs.Common.{ap, ◌∙◌}
use Rattle.fab_lines.specs.Numbers.{number_of}
use Rattle.fab_model.specs.declared.tiles.WireRow.{WireRow}
use Rattle.fab_blocks.proofs.Fine.{family_is}
use Rattle.fab_blocks.proofs.wire.Wire.family.Goals as goal

pub returns-in_ok-family-in-Some : goal.returns-in_ok-family-in-Some
returns-in_ok-family-in-Some c =
    family_is c.args.self.now c.args.side.now c.args.other.now c.in-Some.name c.bytes.result.now c.factor-factor.result (number_of c.deref.result.now) c.in_ok-family-in-Some.family
    c.in-Some.is c.bytes.ensures (ap number_of c.deref.ensures.value ∙ ap (λ (w : WireRow). w.count) c.self.view_is) (c.factor-factor.ensures.times c.in-Some.name) c.in_ok-family-in-Some.ensures
