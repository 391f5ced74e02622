-- Sites and wires of a fabric that are written are read.
use Rattle.std.proofs.Common.{◌≡◌, ◌≢◌, ℕ, zero, suc, ◌+◌, ◌<◌, Bool, true, false, cond, List, [], ◌∷◌, ◌++◌, length, get_or, position, All, AllPairs, Option, Some, None, refl, sym, ap, subst, ◌∙◌, inl, inr, arith, append_assoc}
use Rattle.std.specs.Prelude.{slice_get, nat_lt, ◌&&◌, ◌*◌}
use Rattle.std.specs.Option.{option_map, option_map_or, option_and_then}
use Rattle.std.specs.Str.{bytes_eq}
use Rattle.std.proofs.lemmas.Bool.{cases_Bool, cases_lt}
use Rattle.std.proofs.lemmas.Option.{slice_get_within, get_or_from_slice_get}
use Rattle.std.proofs.lemmas.Slice.Eq.{bytes_eq-Decides}
use Rattle.fab_kinds.specs.declared.kind.Kind.{Kind as BelKind}
use Rattle.fab_model.specs.declared.tiles.Bel.{Bel}
use Rattle.fab_model.specs.Tiles.{PlainTile, IsTile, matrix_names}
use Rattle.fab_model.specs.Grid.{PlainFabric, numbered_type, tile_at}
use Rattle.fab_fabric.specs.Fabric.{IsFabric, AreTiles, wires_at, wire_count}
use Rattle.fab_fabric.specs.Wires.{wire_index, numbered_wire}
use Rattle.fab_fabric.specs.Names.{place_name, full_name, name_at, site_text}
use Rattle.fab_fabric.specs.declared.wire.Site.{Site}
use Rattle.fab_fabric.specs.declared.wire.Wire.{Wire}
use Rattle.fab_fabric.proofs.Numbered.{some_place}
use Rattle.fab_fabric.proofs.Placed.{no_tile_past, no_tile_below}
use Rattle.fab_implementation.specs.OnFabric.{kind_at, IsSite}
use Rattle.fab_texts.specs.Rows.{Word}
use Rattle.fab_texts.specs.Places.{IsWritable}
use Rattle.fab_texts.proofs.SiteLaws.{site_again, place_again}
use Rattle.fab_impl.specs.Names.{site_in, wire_of, wire_text, named_wire}
use Rattle.fab_impl.proofs.FirstPads.{place_in, position-in}
use Rattle.fab_impl.proofs.Sites.{site_small}
use Rattle.fab_impl.proofs.WireNames.{wire_is, inside_grid}

-- ---- sites

no_kind : (fabric : PlainFabric) (site : Site) (kind : BelKind) → tile_at fabric site.x site.y ≡ None → kind_at fabric site ≡ Some kind → ⊥
no_kind fabric site kind none is =
    let no : kind_at fabric site ≡ None = ap (λ (t : Option PlainTile). option_map (λ (bel : Bel). bel.kind) (option_and_then (λ tile. slice_get tile.bels site.bel) t)) none in
    let bad : None ≡ Some kind = sym no ∙ is in
    cc

pub site_writable : (fabric : PlainFabric) (site : Site) → IsFabric fabric → IsSite fabric site → IsWritable site
site_writable fabric site is stands = elim (cases_lt site.x fabric.columns) [
  | inr past ↦ absurd (no_kind fabric site stands.0 (no_tile_past fabric site.x site.y past) stands.1)
  | inl column ↦ elim (cases_lt site.y fabric.rows) [
    | inr below ↦ absurd (no_kind fabric site stands.0 (no_tile_below fabric site.x site.y column below) stands.1)
    | inl row ↦ record { x = omega (arith, column, is.few_columns); y = omega (arith, row, is.few_rows); bel = site_small fabric site is stands }
  ]
]

pub site_in_again : (fabric : PlainFabric) (site : Site) → IsFabric fabric → IsSite fabric site → site_in fabric (site_text site) ≡ Some site
site_in_again fabric site is stands =
    let found = site_again site (site_writable fabric site is stands) in
    rw (found, stands.1) refl

-- ---- wires

tail_apart : (name : Word) (names : List Word) → AllPairs (λ first second. first ≢ second) (name ∷ names) → AllPairs (λ first second. first ≢ second) names
tail_apart name names apart = λ i j d before below. apart (suc i) (suc j) d (omega (arith, before)) (omega (arith, below))

-- a name that stands once is found where it stands
place_again_in : (names : List Word) (number : ℕ) → number < length names → AllPairs (λ first second. first ≢ second) names → place_in (bytes_eq (get_or names number [])) names ≡ Some number
place_again_in [] number below apart = absurd (omega (arith, below))
place_again_in (name ∷ names) zero below apart = rw ((bytes_eq-Decides name name).1 refl) refl
place_again_in (name ∷ names) (suc number) below apart = elim (cases_Bool (bytes_eq (get_or names number []) name)) [
  | inl same ↦ absurd (apart 0 (suc number) [] (omega arith) below (sym ((bytes_eq-Decides (get_or names number []) name).0 same)))
  | inr other ↦ rw other (ap (option_map suc) (place_again_in names number (omega (arith, below)) (tail_apart name names apart)))
]

found_in : (names : List Word) (number : ℕ) → number < length names → AllPairs (λ first second. first ≢ second) names → position (bytes_eq (get_or names number [])) names ≡ Some number
found_in names number below apart = position-in (bytes_eq (get_or names number [])) names ∙ place_again_in names number below apart

tile_in : (types : List PlainTile) (place : Option (Option ℕ)) (tile : PlainTile) → All IsTile types → numbered_type types place ≡ Some tile → IsTile tile
tile_in types None tile all so = absurd cc
tile_in types (Some None) tile all so = absurd cc
tile_in types (Some (Some number)) tile all so = subst IsTile (get_or_from_slice_get types number tile tile so) (all number tile (slice_get_within types number tile so))

tile_is : (fabric : PlainFabric) (inside : Bool) (place : Option (Option ℕ)) (tile : PlainTile) → AreTiles fabric → cond inside (numbered_type fabric.types place) None ≡ Some tile → IsTile tile
tile_is fabric true place tile all so = tile_in fabric.types place tile all so
tile_is fabric false place tile all so = absurd cc

-- a wire is found by its matrix name
named_again : (fabric : PlainFabric) (x y number : ℕ) (tile : Option PlainTile) → AreTiles fabric → tile_at fabric x y ≡ tile → number < option_map_or (λ t. length (matrix_names t)) tile 0
    → option_map (λ n. numbered_wire (wire_index fabric x y n)) (option_and_then (λ t. position (bytes_eq (option_map_or (λ u. get_or (matrix_names u) number []) tile [])) (matrix_names t)) tile) ≡ Some (numbered_wire (wire_index fabric x y number))
named_again fabric x y number None all is within = absurd (omega (arith, within))
named_again fabric x y number (Some tile) all is within =
    let apart = (tile_is fabric (nat_lt x fabric.columns && nat_lt y fabric.rows) (slice_get fabric.grid (y * fabric.columns + x)) tile all is).apart in
    ap (option_map (λ n. numbered_wire (wire_index fabric x y n))) (found_in (matrix_names tile) number within apart)

pub wire_again : (fabric : PlainFabric) (wire : Wire) → IsFabric fabric → AreTiles fabric → wire.0 < wire_count fabric → wire_of fabric (wire_text fabric wire) ≡ Some wire
unfolding wire_of
wire_again fabric wire is all below =
    let place = some_place fabric wire.0 below in
    let x = place.0 in
    let y = place.1 in
    let number = place.2 in
    let within : number < wires_at fabric x y = place.3 in
    let index : wire.0 ≡ wire_index fabric x y number = place.4 in
    let inside = inside_grid fabric x y number within in
    let name = name_at fabric x y number in
    let shape : full_name x y name ≡ place_name x y ++ 47 ∷ name = append_assoc (place_name x y) (47 ∷ []) name in
    let text : wire_text fabric wire ≡ place_name x y ++ 47 ∷ name = ap (λ (i : ℕ). wire_text fabric (numbered_wire i)) index ∙ wire_is fabric x y number within ∙ shape in
    let at = place_again x y 47 name (omega (arith, inside.0, is.few_columns)) (omega (arith, inside.1, is.few_rows)) refl in
    let found : named_wire fabric x y name ≡ Some (numbered_wire (wire_index fabric x y number)) = named_again fabric x y number (tile_at fabric x y) all refl within in
    ap (wire_of fabric) text ∙ rw at found ∙ ap (λ (i : ℕ). Some (numbered_wire i)) (sym index)
