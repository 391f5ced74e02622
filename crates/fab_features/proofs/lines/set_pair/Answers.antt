use Rattle.std.proofs.Common.{◌≡◌, Some, None, sym, ◌∙◌, arith}
use Rattle.fab_fabric.specs.Bits.{plain_bits}
use Rattle.fab_model.specs.Tiles.{PlainTile}
use Rattle.fab_features.proofs.Saids.{has_choice}
use Rattle.fab_features.proofs.LineBits.{pair_adds}
use Rattle.fab_features.proofs.lines.set_pair.Goals as goal

pub returns-clause-adds : goal.returns-clause-adds
returns-clause-adds c =
    pair_adds c.args.fabric.now c.args.feature.now c.args.choice c.requires.said (plain_bits c.args.bits.now) (plain_bits c.set_choice.new.bits) c.in-Some.tile.now c.in-Some.ensures.found.0 (λ e. absurd (omega (arith, e))) c.set_choice.ensures.adds

no_tile : (tile : PlainTile) → Some tile ≡ None → ⊥
no_tile tile e = absurd cc

pub unreachable-requires : goal.unreachable-requires
unreachable-requires c =
    let has = has_choice c.args.fabric.now c.args.feature.now.name c.args.choice c.requires.said in
    no_tile has.tile (sym has.tile_is ∙ c.in_default.ensures.found)
