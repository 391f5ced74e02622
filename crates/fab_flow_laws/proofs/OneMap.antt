-- A list of features has at most one bit map.
use Rattle.std.proofs.Common.{◌≡◌, ℕ, ◌+◌, ◌<◌, Bool, false, List, get_or, Some, slice_get, sym, ap, ◌∙◌, inl, inr}
use Rattle.fab_bits.specs.Bits.{first_bits}
use Rattle.fab_bits.proofs.Numbers.{get_first_bits}
use Rattle.fab_kinds.specs.Pins.{bit_count}
use Rattle.fab_model.specs.declared.tiles.Bel.{Bel}
use Rattle.fab_model.specs.Tiles.{PlainTile, output_field, bits_before}
use Rattle.fab_model.specs.Grid.{PlainFabric, tile_at}
use Rattle.fab_model.specs.Drive.{PlainBits, select_field}
use Rattle.fab_features.proofs.Configured.{bool_same}
use Rattle.fab_flow_laws.specs.BitsLaws.{HaveSameBits, BitMapsAreOne}
use Rattle.fab_flow_laws.proofs.Covered.{IsBitOf, of_bel, of_output, some_bit}
use Rattle.fab_flow_laws.proofs.Decided.{decided}

-- ---- all bits

-- functions with the same first bits agree there
pub same_bit : (width : ℕ) (f g : ℕ → Bool) (place : ℕ) → first_bits width f ≡ first_bits width g → place < width → f place ≡ g place
same_bit width f g place same few =
    sym (get_first_bits width f place false few) ∙ ap (λ (bits : List Bool). get_or bits place false) same ∙ get_first_bits width g place false few

module _ (fabric : PlainFabric) (first second : PlainBits) where
  abbrev pub SameBels : Type 0
  SameBels = (x y bel bit : ℕ) (tile : PlainTile) (found : Bel) → tile_at fabric x y ≡ Some tile → slice_get tile.bels bel ≡ Some found → bit < bit_count found.kind →
      first x y (bits_before tile.bels bel + bit) ≡ second x y (bits_before tile.bels bel + bit)

  abbrev pub SameFields : Type 0
  SameFields = (x y output : ℕ) (tile : PlainTile) → tile_at fabric x y ≡ Some tile → select_field tile (first x y) output ≡ select_field tile (second x y) output

  -- bits are the same where those of BELs and of outputs are
  pub same_everywhere : SameBels → SameFields → HaveSameBits fabric first second
  same_everywhere bels fields x y bit tile tile_is few = by (some_bit tile bit few)
    where
      at : (n : ℕ) → bit ≡ n → first x y n ≡ second x y n → first x y bit ≡ second x y bit
      at n is same = ap (first x y) is ∙ same ∙ ap (second x y) (sym is)

      by : IsBitOf tile bit → first x y bit ≡ second x y bit
      by (of_bel bel place found found_is small bit_is) = at (bits_before tile.bels bel + place) bit_is (bels x y bel place tile found tile_is found_is small)
      by (of_output output place small bit_is) =
          let field = output_field tile output in
          at (field.0 + place) bit_is (same_bit field.1 (λ k. first x y (field.0 + k)) (λ k. second x y (field.0 + k)) place (fields x y output tile tile_is) small)

-- ---- two bit maps

pub bit_maps_are_one : BitMapsAreOne
bit_maps_are_one fabric features first second is_first is_second =
    same_everywhere fabric first second
    (λ x y bel bit tile found tile_is bel_is few.
    let sets = is_first.bels x y bel bit tile found tile_is bel_is few in
    let also = is_second.bels x y bel bit tile found tile_is bel_is few in
    bool_same (first x y (bits_before tile.bels bel + bit)) (second x y (bits_before tile.bels bel + bit)) (λ h. also.1 (sets.0 h)) (λ h. sets.1 (also.0 h)))
    (λ x y output tile tile_is.
    elim (decided fabric x y output features) [
      | inl some ↦ (
          is_first.chosen x y output some.input tile some.feature tile_is some.listed some.chooses
          ∙ sym (is_second.chosen x y output some.input tile some.feature tile_is some.listed some.chooses))
      | inr none ↦ is_first.unchosen x y output tile tile_is none ∙ sym (is_second.unchosen x y output tile tile_is none)
    ])
