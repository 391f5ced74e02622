use Rattle.std.proofs.Common.{◌≡◌, ◌+◌, Some, None, ap, sym, ◌∙◌, arith}
use Rattle.fab_model.specs.Tiles.{PlainTile}
use Rattle.fab_features.proofs.Fields.{kind_small}
use Rattle.fab_features.proofs.Saids.{has_field}
use Rattle.fab_features.proofs.Tables.{few_bels}
use Rattle.std.proofs.lemmas.Option.{slice_get_within}
use Rattle.fab_fabric.specs.Bits.{plain_bits}
use Rattle.fab_features.proofs.LineBits.{the_bel, field_within, field_adds}
use Rattle.fab_features.proofs.lines.set_ordered.Goals as goal

pub returns-clause-adds : goal.returns-clause-adds
returns-clause-adds c =
    field_adds c.args.fabric.now c.args.feature.now c.args.field c.in-Some.tile.now c.in-Some.ensures.found.0 c.requires.said c.requires.ordered c.requires.inside
    (plain_bits c.args.bits.now) (plain_bits c.set_ones.new.bits) (c.first_bit.result + c.args.field.first + c.args.feature.now.low)
    (ap (λ n. n + c.args.field.first + c.args.feature.now.low) c.first_bit.ensures.before) c.set_ones.ensures.adds

no_tile : (tile : PlainTile) → Some tile ≡ None → ⊥
no_tile tile e = absurd cc

pub unreachable-requires : goal.unreachable-requires
unreachable-requires c =
    let has = has_field c.args.fabric.now c.args.feature.now.name c.args.field c.requires.said in
    no_tile has.tile (sym has.tile_is ∙ c.in_default.ensures.found)

pub first_bit-requires-clause-few : goal.first_bit-requires-clause-few
first_bit-requires-clause-few c =
    omega (arith, few_bels c.args.fabric.now c.args.field.x c.args.field.y c.in-Some.tile.now c.in-Some.ensures.is_fabric c.in-Some.ensures.found.0)

pub first_bit-requires-clause-inside : goal.first_bit-requires-clause-inside
first_bit-requires-clause-inside c =
    let bel = the_bel c.args.fabric.now c.args.feature.now c.args.field c.in-Some.tile.now c.in-Some.ensures.found.0 c.requires.said c.requires.ordered c.requires.inside in
    omega (arith, slice_get_within c.in-Some.tile.now.bels c.args.field.bel bel.0 bel.1)

pub overflow_add-first : goal.overflow_add-first
overflow_add-first c =
    let bel = the_bel c.args.fabric.now c.args.feature.now c.args.field c.in-Some.tile.now c.in-Some.ensures.found.0 c.requires.said c.requires.ordered c.requires.inside in
    omega (arith, bel.2, kind_small bel.0.kind, c.first_bit.ensures.small)

pub overflow_add-ones : goal.overflow_add-ones
overflow_add-ones c =
    let bel = the_bel c.args.fabric.now c.args.feature.now c.args.field c.in-Some.tile.now c.in-Some.ensures.found.0 c.requires.said c.requires.ordered c.requires.inside in
    omega (arith, bel.2, kind_small bel.0.kind, c.first_bit.ensures.small, c.requires.ordered, c.requires.inside)

pub set_ones-requires-clause-fits : goal.set_ones-requires-clause-fits
set_ones-requires-clause-fits c =
    omega (
      arith,
      c.first_bit.ensures.before,
      field_within c.args.fabric.now c.args.feature.now c.args.field c.in-Some.tile.now c.in-Some.ensures.found.0 c.requires.said c.requires.ordered c.requires.inside,
    )
