-- What holds of the words that are written, and goes from the wire before a tile to the wire behind it, holds of all wires of a chain.
use Rattle.std.proofs.Common.{◌≡◌, ℕ, true, ◌&&◌, List, [], ◌∷◌, ◌++◌, refl, sym, ◌∙◌, subst, inl, inr, Some, All, nat_eq, append_assoc, eq-eqb}
use Rattle.std.proofs.lemmas.Bool.{cases_Bool}
use Rattle.std.proofs.lemmas.List.Elements.{All-nil, All-cons, All-append, All-head, All-tail, All-weaker, All-contains}
use Rattle.fab_fabric_text_defs.specs.fab_meaning_Loading.{write_data_name}
use Rattle.fab_fabric_text_defs.specs.fab_model_Tiles.{PlainTile}
use Rattle.fab_fabric_text_defs.specs.fab_model_Grid.{PlainFabric, tile_at}
use Rattle.fab_fabric_text_defs.specs.Names.{chain_wire_name}
use Rattle.fab_fabric_text_defs.specs.Places.{PlacedTile, placed_tiles}
use Rattle.fab_fabric_text_defs.specs.Chain.{chain_from, chain_source}
use Rattle.fab_drives_laws.proofs.Places.{placed_tile, tile_is_placed, IsThere, all_placed}

-- the first tile reads what comes before the chain
pub first_reads : (before : List ℕ) (p : PlacedTile) (more : List PlacedTile) → chain_from before (p ∷ more) p.x p.y ≡ before
first_reads before p more =
    let same_x : nat_eq p.x p.x ≡ true = eq-eqb p.x p.x refl in
    let same_y : nat_eq p.y p.y ≡ true = eq-eqb p.y p.y refl in
    rw (same_x, same_y) refl

module _ (P : List ℕ → Type 0) where
  abbrev HasWire : PlacedTile → Type 0
  HasWire p = P (chain_wire_name p.x p.y)

  -- where it holds of the wires of all tiles before one, it holds of what that one reads
  comes_to : (before : List ℕ) (front rest : List PlacedTile) (p : PlacedTile) → P before → All HasWire front → P (chain_from before (front ++ p ∷ rest) p.x p.y)
  comes_to before [] rest p begins wires = subst P (sym (first_reads before p rest)) begins
  comes_to before (q ∷ front) rest p begins wires =
      elim (cases_Bool (nat_eq q.x p.x && nat_eq q.y p.y)) [
        | inl here ↦ rw here begins
        | inr elsewhere ↦ rw elsewhere (comes_to (chain_wire_name q.x q.y) front rest p (All-head HasWire q front wires) (All-tail HasWire q front wires))
      ]

  -- what holds of the wire that comes to a tile holds of its own
  abbrev Passes : (before : List ℕ) → List PlacedTile → PlacedTile → Type 0
  Passes before all p = P (chain_from before all p.x p.y) → HasWire p

  abbrev HasBoth : (before : List ℕ) → List PlacedTile → PlacedTile → Type 0
  HasBoth before all p = P (chain_from before all p.x p.y) × HasWire p

  goes_along : (before : List ℕ) (all front rest : List PlacedTile) → all ≡ front ++ rest → P before → All HasWire front → All (Passes before all) rest →
      All (HasBoth before all) rest
  goes_along before all front [] is begins wires passes = All-nil (HasBoth before all)
  goes_along before all front (p ∷ rest) is begins wires passes =
      let comes : P (chain_from before all p.x p.y) = subst (λ tiles. P (chain_from before tiles p.x p.y)) (sym is) (comes_to before front rest p begins wires) in
      let goes : HasWire p = All-head (Passes before all) p rest passes comes in
      All-cons (HasBoth before all) p rest (comes, goes)
      (goes_along before all (front ++ p ∷ []) rest (is ∙ sym (append_assoc front (p ∷ []) rest)) begins
      (All-append HasWire front (p ∷ []) wires (All-cons HasWire p [] goes (All-nil HasWire))) (All-tail (Passes before all) p rest passes))

-- what comes to each tile of a fabric, and what goes on behind it
pub carried_along : (fabric : PlainFabric) (P : List ℕ → Type 0) → P write_data_name →
    ((x y : ℕ) (tile : PlainTile) → tile_at fabric x y ≡ Some tile → P (chain_source fabric x y) → P (chain_wire_name x y)) →
    (x y : ℕ) (tile : PlainTile) → tile_at fabric x y ≡ Some tile → P (chain_source fabric x y) × P (chain_wire_name x y)
carried_along fabric P begins passes x y tile there =
    let placed = placed_tiles fabric in
    All-contains (HasBoth P write_data_name placed) placed (placed_tile x y tile)
    (goes_along P write_data_name placed [] placed refl begins (All-nil (HasWire P))
    (All-weaker (IsThere fabric) (Passes P write_data_name placed) (λ p is. passes p.x p.y p.tile is) placed (all_placed fabric)))
    (tile_is_placed fabric x y tile there)
