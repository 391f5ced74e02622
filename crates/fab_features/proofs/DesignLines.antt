-- The features of a design: each is of a cell on a site, or of an output that an edge enters.
use Rattle.std.proofs.Common.{◌≡◌, ℕ, zero, suc, ◌+◌, ◌<◌, Bool, true, false, List, [], ◌∷◌, length, map, get_or, Contains, Option, Some, None, nat_eq, slice_get, sym, refl, ap, ◌∙◌, subst, inl, inr, arith, All, eqb-true}
use Rattle.std.specs.List.{list_any, find, filter_map}
use Rattle.std.specs.Option.{option_map, option_map_or}
use Rattle.std.proofs.lemmas.Bool.{false≢true, cases_Bool}
use Rattle.std.proofs.lemmas.Bool.Decides.{Decides-eqb}
use Rattle.std.proofs.lemmas.Option.{slice_get_within, get_or_from_slice_get, slice_get-map}
use Rattle.fab_select.specs.declared.pair.Pair.{Pair}
use Rattle.fab_select.specs.Selection.{inputs_of, in_order, firsts}
use Rattle.fab_select.proofs.Firsts.{firsts_all}
use Rattle.fab_model.specs.Tiles.{PlainTile, TileWire, tile_wires, numbered_pairs, pair_numbers, counted, wire_passes, is_matrix_output}
use Rattle.fab_model.specs.Grid.{PlainFabric, tile_at}
use Rattle.fab_model.specs.Wires.{PlainWire, IsMatrixOutput, plain_wires, wire_of}
use Rattle.fab_model.specs.Drive.{matrix_inputs}
use Rattle.fab_model.proofs.Wires.{plain_wires_are_wires}
use Rattle.fab_fabric.proofs.Numbered.{tile_within}
use Rattle.fab_netlist.specs.Plain.{IsAt}
use Rattle.fab_netlist.proofs.Members.{in_none, first_or_later, first_in, later_in, any_number}
use Rattle.fab_legal.proofs.Members.{from_mapped}
use Rattle.fab_legal.proofs.SinkLaw.{in_flat, into_flat}
use Rattle.fab_use_defs.proofs.fab_tile_drives_laws_Members.{contains_counted}
use Rattle.fab_fasm.specs.declared.feature.Feature.{Feature}
use Rattle.fab_fasm.specs.Printing.{line_by_line}
use Rattle.fab_use_defs.specs.fab_fabric_text_defs_Places.{PlacedTile, placed_at, column_tiles, placed_tiles}
use Rattle.fab_features.specs.inner.Listing.{placed_tile}
use Rattle.fab_features.proofs.Fields.{ordered}
use Rattle.fab_features.proofs.Words.{of_all, passing_wire}

-- ---- lists

pub get_item : {X : Type 0} (xs : List X) (n : ℕ) (x : X) → IsAt xs n x → slice_get xs n ≡ Some x
get_item [] n x at = absurd (omega (arith, at.0))
get_item (y ∷ xs) zero x at = ap (λ z. Some z) at.1
get_item (y ∷ xs) (suc n) x at = get_item xs n x (omega (arith, at.0), at.1)

pub item_at : {X : Type 0} (xs : List X) (n : ℕ) (x : X) → slice_get xs n ≡ Some x → IsAt xs n x
item_at xs n x is = (slice_get_within xs n x is, get_or_from_slice_get xs n x x is)

-- what is found passes and is listed
pub found_in : {X : Type 0} (test : X → Bool) (xs : List X) (x : X) → find test xs ≡ Some x → Contains xs x × (test x ≡ true)
found_in {X} test [] x is = absurd (never x is)
  where
    never : (x : X) → None ≡ Some x → ⊥
    never x e = cc
found_in {X} test (y ∷ xs) x is =
    elim (cases_Bool (test y)) [
      | inl t ↦ (
          let same : y ≡ x = inner (rw t at is) in
          (first_in y xs x same, ap test (sym same) ∙ t))
      | inr f ↦ (
          let rest = found_in test xs x (rw f at is) in
          (later_in y xs x rest.0, rest.1))
    ]
  where
    inner : Some y ≡ Some x → y ≡ x
    inner e = cc

-- the one item that passes is found
pub only_found : {X : Type 0} (test : X → Bool) (xs : List X) (x : X) → Contains xs x → test x ≡ true → ((other : X) → Contains xs other → test other ≡ true → other ≡ x) → find test xs ≡ Some x
only_found test [] x here passes only = absurd (in_none x here)
only_found {X} test (y ∷ xs) x here passes only =
    elim (cases_Bool (test y)) [
      | inl t ↦ rw t (ap (λ (z : X). Some z) (only y (first_in y xs y refl) t))
      | inr f ↦ rw f (elim (first_or_later y xs x here) [
        | inl same ↦ absurd (false≢true (sym f ∙ ap test same ∙ passes))
        | inr later ↦ only_found test xs x later passes (λ other there. only other (later_in y xs other there))
      ])
    ]

pub into_found : {X Y : Type 0} (f : X → Option Y) (xs : List X) (x : X) (y : Y) → Contains xs x → f x ≡ Some y → Contains (filter_map f xs) y
into_found f [] x y here is = absurd (in_none x here)
into_found {X} {Y} f (z ∷ xs) x y here is =
    elim (first_or_later z xs x here) [
      | inl same ↦ (let e : f z ≡ Some y = ap f same ∙ is in rw e (first_in y (filter_map f xs) y refl))
      | inr later ↦ more (f z) refl (into_found f xs x y later is)
    ]
  where
    more : (found : Option Y) → f z ≡ found → Contains (filter_map f xs) y → Contains (filter_map f (z ∷ xs)) y
    more None e rest = rw e rest
    more (Some w) e rest = rw e (later_in w (filter_map f xs) y rest)

pub from_found : {X Y : Type 0} (f : X → Option Y) (xs : List X) (y : Y) → Contains (filter_map f xs) y → (x : X) × Contains xs x × (f x ≡ Some y)
from_found f [] y here = absurd (in_none y here)
from_found {X} {Y} f (z ∷ xs) y here = split (λ there. from_found f xs y there) (f z) refl here
  where
    split : (Contains (filter_map f xs) y → (x : X) × Contains xs x × (f x ≡ Some y)) → (found : Option Y) → f z ≡ found → Contains (filter_map f (z ∷ xs)) y → (x : X) × Contains (z ∷ xs) x × (f x ≡ Some y)
    split rest None e there = (let later = rest (rw e at there) in (later.0, later_in z xs later.0 later.1, later.2))
    split rest (Some w) e there =
        let kept : Contains (w ∷ filter_map f xs) y = rw e at there in
        elim (first_or_later w (filter_map f xs) y kept) [
          | inl same ↦ (z, first_in z xs z refl, e ∙ ap (λ (v : Y). Some v) same)
          | inr other ↦ (let later = rest other in (later.0, later_in z xs later.0 later.1, later.2))
        ]

-- ---- numbers of lines

abbrev pub relined : (line : ℕ) → Feature → Feature
relined line feature = record feature { line = line }

pub from_numbered : (n : ℕ) (xs : List Feature) (f : Feature) → Contains (line_by_line n xs) f → (line : ℕ) × (g : Feature) × Contains xs g × (relined line g ≡ f)
from_numbered n [] f here = absurd (in_none f here)
from_numbered n (x ∷ xs) f here =
    elim (first_or_later (relined n x) (line_by_line (n + 1) xs) f here) [
      | inl same ↦ (n, x, first_in x xs x refl, same)
      | inr later ↦ (let rest = from_numbered (n + 1) xs f later in (rest.0, rest.1, later_in x xs rest.1 rest.2, rest.3))
    ]

pub into_numbered : (n : ℕ) (xs : List Feature) (g : Feature) → Contains xs g → (line : ℕ) × Contains (line_by_line n xs) (relined line g)
into_numbered n [] g here = absurd (in_none g here)
into_numbered n (x ∷ xs) g here =
    elim (first_or_later x xs g here) [
      | inl same ↦ (n, first_in (relined n x) (line_by_line (n + 1) xs) (relined n g) (ap (relined n) same))
      | inr later ↦ (let rest = into_numbered (n + 1) xs g later in (rest.0, later_in (relined n x) (line_by_line (n + 1) xs) (relined rest.0 g) rest.1))
    ]

-- ---- places

pub tile_placed : (fabric : PlainFabric) (x y : ℕ) (tile : PlainTile) → tile_at fabric x y ≡ Some tile → Contains (placed_tiles fabric) (placed_tile x y tile)
tile_placed fabric x y tile is =
    let inside = tile_within fabric x y tile is in
    into_flat (column_tiles fabric) (counted fabric.columns (λ n. n)) x (placed_tile x y tile) (contains_counted fabric.columns (λ n. n) x inside.0)
    (into_found (placed_at fabric x) (counted fabric.rows (λ n. n)) y (placed_tile x y tile) (contains_counted fabric.rows (λ n. n) y inside.1) (ap (option_map (placed_tile x y)) is))

there_of : (found : Option PlainTile) (x y : ℕ) (placed : PlacedTile) → option_map (placed_tile x y) found ≡ Some placed → (tile : PlainTile) × (found ≡ Some tile) × (placed_tile x y tile ≡ placed)
there_of None x y placed e = absurd (never placed e)
  where
    never : (p : PlacedTile) → None ≡ Some p → ⊥
    never p e = cc
there_of (Some tile) x y placed e = (tile, refl, inner (placed_tile x y tile) placed e)
  where
    inner : (a b : PlacedTile) → Some a ≡ Some b → a ≡ b
    inner a b e = cc

pub placed_there : (fabric : PlainFabric) (placed : PlacedTile) → Contains (placed_tiles fabric) placed → tile_at fabric placed.x placed.y ≡ Some placed.tile
placed_there fabric placed here =
    let column = in_flat (column_tiles fabric) (counted fabric.columns (λ n. n)) placed here in
    let row = from_found (placed_at fabric column.0) (counted fabric.rows (λ n. n)) placed column.2 in
    let tile = there_of (tile_at fabric column.0 row.0) column.0 row.0 placed row.2 in
    subst (λ (p : PlacedTile). tile_at fabric p.x p.y ≡ Some p.tile) tile.2 tile.1

-- ---- outputs

-- an input of an output is that of a pair
pub pair_of_input : (pairs : List Pair) (output input : ℕ) → list_any (λ other. nat_eq other input) (inputs_of nat_eq (map pair_numbers pairs) output) ≡ true →
    (pair : Pair) × Contains pairs pair × (pair.output ≡ output) × (pair.input ≡ input)
pair_of_input [] output input there = absurd (false≢true there)
pair_of_input (pair ∷ pairs) output input there =
    elim (cases_Bool (nat_eq pair.output output)) [
      | inr f ↦ (let later = pair_of_input pairs output input (rw f at there) in (later.0, later_in pair pairs later.0 later.1, later.2, later.3))
      | inl t ↦ elim (cases_Bool (nat_eq pair.input input)) [
        | inl same ↦ (pair, first_in pair pairs pair refl, eqb-true pair.output output t, eqb-true pair.input input same)
        | inr other ↦ (let later = pair_of_input pairs output input (rw other at (rw t at there)) in (later.0, later_in pair pairs later.0 later.1, later.2, later.3))
      ]
    ]

some_long : (inputs : List ℕ) (input : ℕ) → list_any (λ other. nat_eq other input) inputs ≡ true → 0 < length inputs
some_long [] input there = absurd (false≢true there)
some_long (first ∷ inputs) input there = omega arith

-- an output with an input is in the order
pub output_ordered : (tile : PlainTile) (output input : ℕ) → list_any (λ other. nat_eq other input) (matrix_inputs tile output) ≡ true → Contains (in_order nat_eq (numbered_pairs tile)) output
output_ordered tile output input there =
    any_number (in_order nat_eq (numbered_pairs tile)) output (ordered nat_eq Decides-eqb output (numbered_pairs tile) (some_long (matrix_inputs tile output) input there))

-- an output in the order is one
pub ordered_pair : (tile : PlainTile) (output : ℕ) → Contains (in_order nat_eq (numbered_pairs tile)) output → (pair : Pair) × Contains tile.pairs pair × (pair.output ≡ output)
ordered_pair tile output here =
    let keys : List ℕ = map (λ (p : ℕ × ℕ). p.0) (numbered_pairs tile) in
    let all : All (Contains keys) keys = λ k d few. (k, few, own keys k d few) in
    let key : Contains keys output = of_all (Contains keys) (firsts nat_eq keys) output (firsts_all (Contains keys) nat_eq keys all) here in
    let numbers = from_mapped (λ (p : ℕ × ℕ). p.0) (numbered_pairs tile) output key in
    let pair = from_mapped pair_numbers tile.pairs numbers.0 numbers.1 in
    (pair.0, pair.1, ap (λ (p : ℕ × ℕ). p.0) pair.2 ∙ numbers.2)
  where
    own : (xs : List ℕ) (k : ℕ) (d : ℕ) → k < length xs → get_or xs k (get_or xs k d) ≡ get_or xs k d
    own [] k d few = absurd (omega (arith, few))
    own (x ∷ xs) zero d few = refl
    own (x ∷ xs) (suc k) d few = own xs k d (omega (arith, few))

-- the wire of an output is driven by the switch matrix
pub plain_output : (tile : PlainTile) (number : ℕ) (plain : PlainWire) → slice_get (plain_wires tile) number ≡ Some plain → wire_passes is_matrix_output tile number ≡ true → IsMatrixOutput tile plain
plain_output tile number plain is passes =
    let w = passing_wire is_matrix_output tile number passes in
    let both : Some (wire_of tile plain) ≡ Some (Some w.0) =
    ap (option_map (wire_of tile)) (sym is)
    ∙ sym (slice_get-map (wire_of tile) (plain_wires tile) number)
    ∙ ap (λ (ws : List (Option TileWire)). slice_get ws number) (plain_wires_are_wires tile)
    ∙ slice_get-map (λ (t : TileWire). Some t) (tile_wires tile) number
    ∙ ap (option_map (λ (t : TileWire). Some t)) w.1 in
    passed (wire_of tile plain) w.0 (inner both) w.2
  where
    inner : {a b : Option TileWire} → Some a ≡ Some b → a ≡ b
    inner e = cc

    passed : (o : Option TileWire) (t : TileWire) → o ≡ Some t → is_matrix_output t ≡ true → option_map_or is_matrix_output o false ≡ true
    passed o t e driven = ap (λ (p : Option TileWire). option_map_or is_matrix_output p false) e ∙ driven
