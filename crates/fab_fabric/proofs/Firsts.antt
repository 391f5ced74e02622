-- The first wires of places.
use Rattle.std.proofs.Common.{◌≡◌, ℕ, ◌+◌, ◌*◌, ◌<◌, ◌≤◌, List, [], ◌∷◌, ◌++◌, length, get_or, refl, sym, ap, ◌∙◌, arith, subst, Option, Some, None, inl, inr}
use Rattle.std.specs.Option.{option_map_or}
use Rattle.std.proofs.lemmas.Bool.{cases_lt}
use Rattle.std.proofs.lemmas.List.{get_or_append_left}
use Rattle.std.proofs.Math.Seq.{get_or-append_seam}
use Rattle.std.proofs.lemmas.Option.{slice_get_read, slice_get-get_or}
use Rattle.fab_model.specs.Tiles.{PlainTile, matrix_names}
use Rattle.fab_model.specs.Grid.{PlainFabric, tile_at, numbered_type}
use Rattle.fab_fabric.specs.Sums.{sum_to}
use Rattle.fab_fabric.specs.Fabric.{IsFabric, IsPlace, wires_at}
use Rattle.fab_fabric.specs.inner.Index.{place_wires}
use Rattle.fab_fabric.proofs.Summed.{sum_more, sum_below}
use Rattle.fab_fabric.proofs.Numbered.{all_places, wires_of_tile}
use Rattle.fab_fabric.proofs.Placed.{in_grid, tile_inside}

-- what the grid has at a place, as it is read
pub place_read : (fabric : PlainFabric) (x y : ℕ) (d place : Option ℕ) → IsFabric fabric → x < fabric.columns → y < fabric.rows → get_or fabric.grid (y * fabric.columns + x) d ≡ place →
    (tile_at fabric x y ≡ numbered_type fabric.types (Some place)) × IsPlace fabric.types place
place_read fabric x y d place is few low read =
    let k = y * fabric.columns + x in
    let inside : k < length fabric.grid = omega (arith, is.places, in_grid x y fabric.columns fabric.rows few low) in (
      tile_inside fabric x y few low ∙ ap (numbered_type fabric.types) (slice_get-get_or fabric.grid k d inside ∙ ap Some read),
      subst (IsPlace fabric.types) read (is.numbers k d inside),
    )

pub tile_read : (fabric : PlainFabric) (x y : ℕ) (d : Option ℕ) (number : ℕ) (tile : PlainTile) → IsFabric fabric → x < fabric.columns → y < fabric.rows →
    get_or fabric.grid (y * fabric.columns + x) d ≡ Some number → tile ≡ get_or fabric.types number tile → tile_at fabric x y ≡ Some tile
tile_read fabric x y d number tile is few low read tile_is =
    let g = place_read fabric x y d (Some number) is few low read in
    g.0 ∙ slice_get_read fabric.types (length fabric.types) number tile refl g.1 tile_is

pub wires_read : (fabric : PlainFabric) (x y : ℕ) (d : Option ℕ) (number : ℕ) (tile : PlainTile) (names : ℕ) → IsFabric fabric → x < fabric.columns → y < fabric.rows →
    get_or fabric.grid (y * fabric.columns + x) d ≡ Some number → tile ≡ get_or fabric.types number tile → names ≡ length (matrix_names tile) → names ≡ wires_at fabric x y
wires_read fabric x y d number tile names is few low read tile_is names_are =
    names_are ∙ sym (wires_of_tile fabric x y tile (tile_read fabric x y d number tile is few low read tile_is))

pub no_wires_read : (fabric : PlainFabric) (x y : ℕ) (d : Option ℕ) → IsFabric fabric → x < fabric.columns → y < fabric.rows →
    get_or fabric.grid (y * fabric.columns + x) d ≡ None → 0 ≡ wires_at fabric x y
no_wires_read fabric x y d is few low read =
    sym (ap (λ found. option_map_or (λ tile. length (matrix_names tile)) found 0) (place_read fabric x y d None is few low read).0)

-- the wires up to a place are few
pub few_so_far : (fabric : PlainFabric) (place first wires : ℕ) → IsFabric fabric → place < fabric.columns * fabric.rows → first ≡ sum_to place (place_wires fabric) → wires ≡ place_wires fabric place → first + wires ≤ 1048576
few_so_far fabric place first wires is few first_is wires_are =
    omega (arith, sum_below (place_wires fabric) place (fabric.columns * fabric.rows) few, all_places fabric, is.few_wires, first_is, wires_are)

pub next_first : (f : ℕ → ℕ) (place first wires : ℕ) → first ≡ sum_to place f → wires ≡ f place → first + wires ≡ sum_to (place + 1) f
next_first f place first wires first_is wires_are = omega (arith, first_is, wires_are, sum_more place f)

-- one first wire more
pub each_more : (f : ℕ → ℕ) (firsts new : List ℕ) (n first : ℕ) → length firsts ≡ n → first ≡ sum_to n f → new ≡ firsts ++ first ∷ [] →
    ((place : ℕ) → place < n → get_or firsts place 0 ≡ sum_to place f) → (place : ℕ) → place < n + 1 → get_or new place 0 ≡ sum_to place f
each_more f firsts new n first as_many first_is new_is so_far place few =
    ap (λ xs. get_or xs place 0) new_is
    ∙ elim (cases_lt place n) [
      | inl less ↦ get_or_append_left firsts (first ∷ []) 0 place (omega (arith, less, as_many)) ∙ so_far place less
      | inr past ↦ (
          let last : place ≡ n = omega (arith, few, past) in
          let there : place ≡ length firsts = omega (arith, last, as_many) in
          ap (λ k. get_or (firsts ++ first ∷ []) k 0) there ∙ get_or-append_seam firsts first [] 0 ∙ first_is ∙ ap (λ k. sum_to k f) (sym last))
    ]
