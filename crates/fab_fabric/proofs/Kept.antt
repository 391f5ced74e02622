-- What is kept of tile types.
use Rattle.std.proofs.Common.{◌≡◌, ℕ, zero, suc, ◌+◌, ◌/◌, ◌<◌, ◌≤◌, List, [], ◌∷◌, ◌++◌, All, Option, length, get_or, slice_get, refl, sym, ap, ◌∙◌, arith, subst, Some, inl, inr}
use Rattle.std.proofs.lemmas.Bool.{cases_lt}
use Rattle.std.proofs.lemmas.Option.{same_Some, slice_get_within, slice_get_read, slice_get-get_or}
use Rattle.fab_model.specs.declared.mode.Mode.{Mode}
use Rattle.fab_model.specs.Tiles.{PlainTile, IsTile}
use Rattle.fab_model.specs.Grid.{PlainFabric}
use Rattle.fab_fabric.specs.declared.index.TileIndex.{TileIndex}
use Rattle.fab_fabric.specs.Fabric.{fabric_of, in_mode, IsFabric, wire_count}
use Rattle.fab_fabric.specs.inner.Index.{HasIndex, HaveIndexes, HasFirsts, IsIndexed}

-- what is kept of the first types
abbrev pub HaveSome : List PlainTile → List TileIndex → (n : ℕ) → Type 0
HaveSome types indexes n = (number : ℕ) (tile : PlainTile) → number < n → slice_get types number ≡ Some tile → (index : TileIndex) × (slice_get indexes number ≡ Some index) × HasIndex tile index

pub none_kept : (types : List PlainTile) (indexes : List TileIndex) → HaveSome types indexes 0
none_kept types indexes number tile few is = absurd (omega (arith, few))

-- an item of the first of two lists, and the item behind them
get_left : {X : Type 0} (xs ys : List X) (i : ℕ) → i < length xs → slice_get (xs ++ ys) i ≡ slice_get xs i
get_left [] ys i few = absurd (omega (arith, few))
get_left (x ∷ xs) ys zero few = refl
get_left (x ∷ xs) ys (suc i) few = get_left xs ys i (omega (arith, few))

get_last : {X : Type 0} (xs : List X) (x : X) (i : ℕ) → i ≡ length xs → slice_get (xs ++ x ∷ []) i ≡ Some x
get_last [] x i is = ap (slice_get (x ∷ [])) is
get_last (y ∷ xs) x zero is = absurd (omega (arith, is))
get_last (y ∷ xs) x (suc i) is = get_last xs x i (omega (arith, is))

-- one type more
pub have_more : (types : List PlainTile) (indexes new : List TileIndex) (n : ℕ) (tile : PlainTile) (index : TileIndex) → length indexes ≡ n → n < length types → tile ≡ get_or types n tile →
    new ≡ indexes ++ index ∷ [] → HasIndex tile index → HaveSome types indexes n → HaveSome types new (n + 1)
have_more types indexes new n tile index as_many within is new_is has so_far number other few other_is =
    elim (cases_lt number n) [
      | inl less ↦ (
          let g = so_far number other less other_is in
          (g.0, ap (λ is. slice_get is number) new_is ∙ get_left indexes (index ∷ []) number (omega (arith, less, as_many)) ∙ g.1, g.2))
      | inr past ↦ (
          let last : number ≡ n = omega (arith, few, past) in
          let same : tile ≡ other = same_Some tile other (sym (ap (slice_get types) last ∙ slice_get_read types (length types) n tile refl within is) ∙ other_is) in
          (index, ap (λ is. slice_get is number) new_is ∙ get_last indexes index number (omega (arith, last, as_many)), subst (λ tile. HasIndex tile index) same has))
    ]

-- all types
pub have_all : (types : List PlainTile) (indexes : List TileIndex) (n : ℕ) → length types ≤ n → HaveSome types indexes n → HaveIndexes types indexes
have_all types indexes n all have number tile is = have number tile (omega (arith, all, slice_get_within types number tile is)) is

pub all_tiles : (types : List PlainTile) (indexes : List TileIndex) → HaveIndexes types indexes → All IsTile types
all_tiles types indexes have k d few = (have k (get_or types k d) (slice_get-get_or types k d few)).2.is_tile

-- what a fabric promises does not look at what keeps its configuration
pub is_fabric_in : (mode : Mode) (fabric : PlainFabric) → IsFabric fabric → IsFabric (in_mode mode fabric)
is_fabric_in mode fabric is = record {
  some_columns = is.some_columns;
  few_columns = is.few_columns;
  some_rows = is.some_rows;
  few_rows = is.few_rows;
  places = is.places;
  numbers = is.numbers;
  few_types = is.few_types;
  names = is.names;
  few_bels = is.few_bels;
  tables = is.tables;
  few_wires = is.few_wires;
}

-- a new fabric keeps what belongs to it
pub new_is_indexed : (types types2 : List PlainTile) (columns len : ℕ) (grid grid2 : List (Option ℕ)) (mode : Mode) (indexes : List TileIndex) (firsts : List ℕ) (wires : ℕ) →
    types2 ≡ types → grid2 ≡ grid → len ≡ length grid → IsFabric (fabric_of types columns grid) → HaveIndexes types2 indexes → All IsTile types2 →
    HasFirsts (fabric_of types2 columns grid2) firsts → wires ≡ wire_count (fabric_of types2 columns grid2) →
    IsIndexed (record { types = types; columns = columns; rows = len / columns; grid = grid; mode = mode }) indexes firsts wires
new_is_indexed types types2 columns len grid grid2 mode indexes firsts wires types_are grid_is len_is is kept tiles numbered counted =
    let P : ℕ → Type 0 = λ len. IsIndexed (record { types = types; columns = columns; rows = len / columns; grid = grid; mode = mode }) indexes firsts wires in
    let same : fabric_of types2 columns grid2 ≡ fabric_of types columns grid = λ j. fabric_of (types_are j) columns (grid_is j) in
    let numbered_same : HasFirsts (fabric_of types columns grid) firsts = subst (λ (f : PlainFabric). HasFirsts f firsts) same numbered in
    subst P (sym len_is) (record {
      is_fabric = is_fabric_in mode (fabric_of types columns grid) is;
      are_tiles = subst (λ (ts : List PlainTile). All IsTile ts) types_are tiles;
      indexed = subst (λ (ts : List PlainTile). HaveIndexes ts indexes) types_are kept;
      numbered = record { as_many = numbered_same.as_many; each = numbered_same.each };
      all_wires = counted ∙ ap wire_count same;
    })
