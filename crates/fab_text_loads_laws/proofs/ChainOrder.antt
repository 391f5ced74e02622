-- Each tile of a fabric stands at a place of its own, so what comes to it by the chain is what goes out of the tile before it.
use Rattle.std.proofs.Common.{◌≡◌, ℕ, ◌<◌, Bool, ◌&&◌, List, [], ◌∷◌, refl, ap, ◌∙◌, subst, inl, inr, arith, Option, Some, None, All, AllPairs, nat_eq}
use Rattle.std.specs.List.{flat_map, filter_map, cons_option}
use Rattle.std.specs.Option.{option_map}
use Rattle.std.proofs.lemmas.Bool.{cases_Bool}
use Rattle.std.proofs.lemmas.Bool.Decides.{nat_tests}
use Rattle.std.proofs.lemmas.List.Elements.{All-nil, All-cons, All-head, All-tail, All-weaker}
use Rattle.std.proofs.lemmas.List.Kept.{AllPairs-cons}
use Rattle.fab_drives_laws.specs.fab_model_Tiles.{PlainTile, counted}
use Rattle.fab_drives_laws.specs.fab_model_Grid.{PlainFabric, tile_at}
use Rattle.fab_drives_laws.specs.fab_fabric_text_defs_Chain.{chain_from}
use Rattle.fab_drives_laws.specs.fab_fabric_text_defs_Names.{chain_wire_name}
use Rattle.fab_drives_laws.specs.fab_fabric_text_defs_Places.{PlacedTile, placed_at, column_tiles, placed_tiles}
use Rattle.fab_loading_laws.specs.Chain.{chain_out, IsHandedOn}
use Rattle.fab_parts_sound_laws.proofs.Lists.{all_flat_map, pairs_none, pairs_head, pairs_tail, pairs_append, pairs_counted}
use Rattle.fab_drives_laws.proofs.Chains.{first_reads}
use Rattle.fab_drives_laws.proofs.Lists.{all_of, all_found}
use Rattle.fab_drives_laws.proofs.Places.{placed_tile}

-- ---- places

-- at another place
abbrev IsElsewhere : PlacedTile → PlacedTile → Type 0
IsElsewhere p q = p.x ≡ q.x → p.y ≡ q.y → ⊥

abbrev IsBelow : (number other : ℕ) → Type 0
IsBelow number other = number < other

stands_at : (found : Option PlainTile) (x y : ℕ) (p : PlacedTile) → option_map (placed_tile x y) found ≡ Some p → (p.x ≡ x) × (p.y ≡ y)
stands_at None x y p is = absurd cc
stands_at (Some tile) x y p is = let same : p ≡ placed_tile x y tile = cc in (ap (λ (q : PlacedTile). q.x) same, ap (λ (q : PlacedTile). q.y) same)

with_first : (found : Option PlacedTile) (rest : List PlacedTile) → ((p : PlacedTile) → found ≡ Some p → All (IsElsewhere p) rest) → AllPairs IsElsewhere rest →
    AllPairs IsElsewhere (cons_option found rest)
with_first None rest first apart = apart
with_first (Some p) rest first apart = AllPairs-cons IsElsewhere p rest (first p refl) apart

module _ (fabric : PlainFabric) where
  in_column : (x : ℕ) → All (λ p. p.x ≡ x) (column_tiles fabric x)
  in_column x =
      all_found (λ (p : PlacedTile). p.x ≡ x) (placed_at fabric x) (counted fabric.rows (λ y. y))
      (all_of (λ (y : ℕ). (p : PlacedTile) → placed_at fabric x y ≡ Some p → p.x ≡ x) (counted fabric.rows (λ y. y))
      (λ y p is. (stands_at (tile_at fabric x y) x y p is).0))

  rows_apart : (x : ℕ) (ys : List ℕ) → AllPairs IsBelow ys → AllPairs IsElsewhere (filter_map (placed_at fabric x) ys)
  rows_apart x [] below = pairs_none IsElsewhere
  rows_apart x (y ∷ ys) below =
      with_first (placed_at fabric x y) (filter_map (placed_at fabric x) ys)
      (λ p is. all_found (IsElsewhere p) (placed_at fabric x) ys
      (All-weaker (IsBelow y) (λ (other : ℕ). (q : PlacedTile) → placed_at fabric x other ≡ Some q → IsElsewhere p q)
      (λ other before q found same_x same_y.
      let at = (stands_at (tile_at fabric x y) x y p is).1 in
      let at_other = (stands_at (tile_at fabric x other) x other q found).1 in
      omega (arith, before, at, at_other, same_y)) ys (pairs_head IsBelow y ys below)))
      (rows_apart x ys (pairs_tail IsBelow y ys below))

  columns_apart : (xs : List ℕ) → AllPairs IsBelow xs → AllPairs IsElsewhere (flat_map (column_tiles fabric) xs)
  columns_apart [] below = pairs_none IsElsewhere
  columns_apart (x ∷ xs) below =
      let others = flat_map (column_tiles fabric) xs in
      pairs_append IsElsewhere (column_tiles fabric x) others
      (rows_apart x (counted fabric.rows (λ y. y)) (pairs_counted IsBelow fabric.rows (λ y. y) (λ i j before few. before)))
      (columns_apart xs (pairs_tail IsBelow x xs below))
      (All-weaker (λ (p : PlacedTile). p.x ≡ x) (λ (p : PlacedTile). All (IsElsewhere p) others)
      (λ p at. all_flat_map (IsElsewhere p) (column_tiles fabric) xs
      (All-weaker (IsBelow x) (λ (other : ℕ). All (IsElsewhere p) (column_tiles fabric other))
      (λ other before. All-weaker (λ (q : PlacedTile). q.x ≡ other) (IsElsewhere p)
      (λ q at_other same_x same_y. omega (arith, before, at, at_other, same_x)) (column_tiles fabric other) (in_column other)) xs
      (pairs_head IsBelow x xs below)))
      (column_tiles fabric x) (in_column x))

  pub tiles_apart : AllPairs IsElsewhere (placed_tiles fabric)
  tiles_apart = columns_apart (counted fabric.columns (λ x. x)) (pairs_counted IsBelow fabric.columns (λ x. x) (λ i j before few. before))

-- ---- what comes to each

-- a tile at another place than the first does not look at that
past_first : (before : List ℕ) (p q : PlacedTile) (more : List PlacedTile) → IsElsewhere p q →
    chain_from before (p ∷ more) q.x q.y ≡ chain_from (chain_wire_name p.x p.y) more q.x q.y
past_first before p q more apart =
    elim (cases_Bool (nat_eq p.x q.x && nat_eq p.y q.y)) [
      | inl same ↦ absurd (let x : p.x ≡ q.x = grind (arith, nat_tests) in let y : p.y ≡ q.y = grind (arith, nat_tests) in apart x y)
      | inr other ↦ rw other refl
    ]

module _ (shows : List ℕ → Bool) (held : PlacedTile → List Bool) where
  -- what the wire before a tile shows
  abbrev pub comes_along : (before : List ℕ) → List PlacedTile → PlacedTile → Bool
  comes_along before all p = shows (chain_from before all p.x p.y)

  -- the wire behind a tile shows what goes out of its bits
  abbrev pub LetsOut : (before : List ℕ) → List PlacedTile → PlacedTile → Type 0
  LetsOut before all p = shows (chain_wire_name p.x p.y) ≡ chain_out (comes_along before all p) (held p)

  handed_same : (comes other : PlacedTile → Bool) (offered : Bool) (tiles : List PlacedTile) → All (λ p. other p ≡ comes p) tiles →
      IsHandedOn comes held offered tiles → IsHandedOn other held offered tiles
  handed_same comes other offered [] same handed = tt
  handed_same comes other offered (p ∷ tiles) same handed =
      let Same : PlacedTile → Type 0 = λ p. other p ≡ comes p in
      (All-head Same p tiles same ∙ handed.0, handed_same comes other (chain_out offered (held p)) tiles (All-tail Same p tiles same) handed.1)

  lets_out_same : (before own : List ℕ) (all more rest : List PlacedTile) → All (λ p. comes_along before all p ≡ comes_along own more p) rest →
      All (LetsOut before all) rest →
      All (LetsOut own more) rest
  lets_out_same before own all more [] same out = All-nil (LetsOut own more)
  lets_out_same before own all more (p ∷ rest) same out =
      let Same : PlacedTile → Type 0 = λ p. comes_along before all p ≡ comes_along own more p in
      All-cons (LetsOut own more) p rest (All-head (LetsOut before all) p rest out ∙ ap (λ bit. chain_out bit (held p)) (All-head Same p rest same))
      (lets_out_same before own all more rest (All-tail Same p rest same) (All-tail (LetsOut before all) p rest out))

  -- so each tile gets what goes out of the one before it
  pub handed_on : (before : List ℕ) (all : List PlacedTile) → AllPairs IsElsewhere all → All (LetsOut before all) all →
      IsHandedOn (comes_along before all) held (shows before) all
  handed_on before [] apart out = tt
  handed_on before (p ∷ more) apart out =
      let own = chain_wire_name p.x p.y in
      let first : comes_along before (p ∷ more) p ≡ shows before = ap shows (first_reads before p more) in
      let same : All (λ q. comes_along before (p ∷ more) q ≡ comes_along own more q) more =
      All-weaker (IsElsewhere p) (λ (q : PlacedTile). comes_along before (p ∷ more) q ≡ comes_along own more q)
      (λ q elsewhere. ap shows (past_first before p q more elsewhere)) more
      (pairs_head IsElsewhere p more apart) in
      let goes : shows own ≡ chain_out (shows before) (held p) = All-head (LetsOut before (p ∷ more)) p more out ∙ ap (λ bit. chain_out bit (held p)) first in
      let later =
      handed_on own more (pairs_tail IsElsewhere p more apart)
      (lets_out_same before own (p ∷ more) more more same (All-tail (LetsOut before (p ∷ more)) p more out)) in (
        first,
        handed_same (comes_along own more) (comes_along before (p ∷ more)) (chain_out (shows before) (held p)) more same
            (subst (λ bit. IsHandedOn (comes_along own more) held bit more) goes later),
      )
