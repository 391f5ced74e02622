-- The bits that a line sets, as ones of values.
use Rattle.std.proofs.Common.{◌≡◌, ◌≢◌, ℕ, ◌+◌, ◌-◌, ◌<◌, ◌≤◌, Some, slice_get, sym, ap, ◌∙◌, subst, inl, inr, arith}
use Rattle.fab_kinds.specs.Pins.{bit_count}
use Rattle.fab_model.specs.declared.tiles.Bel.{Bel}
use Rattle.fab_model.specs.Tiles.{PlainTile, bits_before}
use Rattle.fab_model.specs.Grid.{PlainFabric, tile_at}
use Rattle.fab_model.specs.Drive.{PlainBits}
use Rattle.fab_fabric.specs.Bits.{bits_at}
use Rattle.fab_netlist.specs.WellMade.{table_bit}
use Rattle.fab_fasm.specs.declared.feature.Feature.{Feature}
use Rattle.fab_features.specs.Said.{said_of, bel_field, choice}
use Rattle.fab_features.specs.inner.Adding.{Adds, IsOneOf, IsChoiceOne, IsSelectOne}
use Rattle.fab_features.specs.inner.Lines.{IsLineOne}
use Rattle.fab_features.specs.declared.said.BelField.{BelField}
use Rattle.fab_features.specs.declared.said.Choice.{Choice}
use Rattle.fab_features.specs.declared.said.Said.TheVariants as said
use Rattle.fab_features.proofs.Added.{none_added, same_added}
use Rattle.fab_features.proofs.Fields.{bel_inside}
use Rattle.fab_features.proofs.Setting.{ones_of, one_tile, tile_there, bits_of_tile}
use Rattle.fab_features.proofs.Saids.{has_field, one_field, one_choice, no_both}

module _ (fabric : PlainFabric) (feature : Feature) (field : BelField) (tile : PlainTile) (is : tile_at fabric field.x field.y ≡ Some tile)
    (says : said_of fabric feature.name ≡ Some (said.OfBel field)) (ordered : feature.low ≤ feature.high) (within : feature.high < field.width) where
  pub the_bel : (found : Bel) × (slice_get tile.bels field.bel ≡ Some found) × (field.first + field.width ≤ bit_count found.kind)
  the_bel =
      let has = has_field fabric feature.name field says in
      let same : has.tile ≡ tile = one_tile fabric field.x field.y has.tile tile has.tile_is is in
      (has.found, ap (λ (t : PlainTile). slice_get t.bels field.bel) (sym same) ∙ has.bel_is, has.inside)

  pub field_within : bits_before tile.bels field.bel + field.first + feature.low + (feature.high - feature.low + 1) ≤ bits_at fabric field.x field.y
  field_within =
      let bel = the_bel in
      omega (arith, bel_inside tile.bels field.bel bel.0 bel.1, bel.2, bits_of_tile fabric field.x field.y tile is)

  pub field_adds : (a b : PlainBits) (low : ℕ) → low ≡ bits_before tile.bels field.bel + field.first + feature.low →
      Adds a b (IsOneOf (ones_of field.x field.y low (feature.high - feature.low + 1) feature.value)) → Adds a b (IsLineOne fabric feature)
  field_adds a b low low_is adds =
      let before = bits_before tile.bels field.bel in
      let bel = the_bel in
      same_added a b (IsOneOf (ones_of field.x field.y low (feature.high - feature.low + 1) feature.value)) (IsLineOne fabric feature)
      (λ x y bit o.
      let place = bit - before in
      let back : bit - low ≡ place - (field.first + feature.low) = omega (arith, low_is) in
      inl (record {
        tile = tile;
        bel = field.bel;
        place = place;
        found = bel.0;
        tile_is = tile_there fabric field.x field.y x y tile o.x_is o.y_is is;
        bel_is = bel.1;
        small = omega (arith, o.above, o.below, low_is, bel.2);
        bit_is = omega (arith, o.above, low_is);
        sets = record {
          first = field.first;
          width = field.width;
          said_is = says ∙ ap (λ n. Some (said.OfBel (bel_field n field.y field.bel field.first field.width))) (sym o.x_is)
              ∙ ap (λ n. Some (said.OfBel (bel_field x n field.bel field.first field.width))) (sym o.y_is);
          above = omega (arith, o.above, low_is);
          below = omega (arith, o.above, o.below, low_is);
          one = ap (table_bit feature.value) (sym back) ∙ o.one;
        };
      }))
      (λ x y bit either.
      elim either [
        | inr p ↦ no_both fabric feature.name field (choice x y p.output p.input) says p.chooses.said_is
        | inl f ↦ (
            let e = one_field fabric feature.name (bel_field x y f.bel f.sets.first f.sets.width) field f.sets.said_is says in
            let x_is : x ≡ field.x = ap (λ (k : BelField). k.x) e in
            let y_is : y ≡ field.y = ap (λ (k : BelField). k.y) e in
            let bel_is : f.bel ≡ field.bel = ap (λ (k : BelField). k.bel) e in
            let first_is : f.sets.first ≡ field.first = ap (λ (k : BelField). k.first) e in
            let same : f.tile ≡ tile = one_tile fabric x y f.tile tile f.tile_is (tile_there fabric field.x field.y x y tile x_is y_is is) in
            let at : bits_before f.tile.bels f.bel ≡ before = ap (λ (t : PlainTile). bits_before t.bels f.bel) same ∙ ap (bits_before tile.bels) bel_is in
            let back : bit - low ≡ f.place - (f.sets.first + feature.low) = omega (arith, low_is, at, first_is, f.bit_is) in
            record {
              x_is = x_is;
              y_is = y_is;
              above = omega (arith, low_is, at, first_is, f.bit_is, f.sets.above);
              below = omega (arith, low_is, at, first_is, f.bit_is, f.sets.below);
              one = ap (table_bit feature.value) back ∙ f.sets.one;
            })
      ])
      adds

module _ (fabric : PlainFabric) (feature : Feature) (pair : Choice) (says : said_of fabric feature.name ≡ Some (said.OfPair pair)) where
  pub pair_none : (bits : PlainBits) → feature.value ≡ 0 → Adds bits bits (IsLineOne fabric feature)
  pair_none bits zero_is =
      none_added bits (IsLineOne fabric feature) (λ x y bit either.
      elim either [
        | inl f ↦ no_both fabric feature.name (bel_field x y f.bel f.sets.first f.sets.width) pair f.sets.said_is says
        | inr p ↦ p.chooses.some zero_is
      ])

  pub pair_adds : (a b : PlainBits) (tile : PlainTile) → tile_at fabric pair.x pair.y ≡ Some tile → feature.value ≢ 0 → Adds a b (IsChoiceOne tile pair) → Adds a b (IsLineOne fabric feature)
  pair_adds a b tile is some adds =
      same_added a b (IsChoiceOne tile pair) (IsLineOne fabric feature)
      (λ x y bit o. inr (record {
        tile = tile;
        output = pair.output;
        input = pair.input;
        tile_is = tile_there fabric pair.x pair.y x y tile o.x_is o.y_is is;
        chooses = record {
          said_is = says ∙ ap (λ n. Some (said.OfPair (choice n pair.y pair.output pair.input))) (sym o.x_is) ∙ ap (λ n. Some (said.OfPair (choice x n pair.output pair.input))) (sym o.y_is);
          some = some;
        };
        selected = o.selected;
      }))
      (λ x y bit either.
      elim either [
        | inl f ↦ no_both fabric feature.name (bel_field x y f.bel f.sets.first f.sets.width) pair f.sets.said_is says
        | inr p ↦ (
            let e = one_choice fabric feature.name (choice x y p.output p.input) pair p.chooses.said_is says in
            let x_is : x ≡ pair.x = ap (λ (k : Choice). k.x) e in
            let y_is : y ≡ pair.y = ap (λ (k : Choice). k.y) e in
            let same : p.tile ≡ tile = one_tile fabric x y p.tile tile p.tile_is (tile_there fabric pair.x pair.y x y tile x_is y_is is) in
            let first : IsSelectOne tile p.output p.input bit = subst (λ (t : PlainTile). IsSelectOne t p.output p.input bit) same p.selected in
            let second : IsSelectOne tile pair.output p.input bit = subst (λ n. IsSelectOne tile n p.input bit) (ap (λ (k : Choice). k.output) e) first in
            record { x_is = x_is; y_is = y_is; selected = subst (λ n. IsSelectOne tile pair.output n bit) (ap (λ (k : Choice). k.input) e) second })
      ])
      adds
