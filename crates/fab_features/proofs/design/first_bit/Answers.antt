use Rattle.std.proofs.Common.{◌≡◌, ◌≤◌, ℕ, ap, arith}
use Rattle.fab_model.specs.Tiles.{bel_field}
use Rattle.fab_features.proofs.Fields.{before_small, field_there}
use Rattle.fab_features.proofs.design.first_bit.Goals as goal

pub returns-clause-small : goal.returns-clause-small
returns-clause-small c =
    let first : c.bel_field.result.0 ≡ (bel_field c.args.tile.now c.args.bel).0 = ap (λ (field : ℕ × ℕ). field.0) c.bel_field.ensures in
    omega (arith, first, field_there c.args.tile.now c.args.bel c.requires.inside, before_small c.args.tile.now.bels c.args.bel, c.requires.few, c.requires.inside)
