-- The functions that go from row to row, and what it is for bits to cross a border.
use Rattle.std.proofs.Common.{◌≡◌, ℕ, ◌+◌, ◌*◌, Bool, true, false, cond, ◌&&◌, List, take, count_by, slice_get, refl, sym, ap, ◌∙◌, arith, subst, Option, Some, None, option_map, option_and_then, nat_eq, nat_lt, inl, inr}
use Rattle.std.proofs.lemmas.Bool.{cases_Bool, and_parts, and_from, eqb-true, eq-eqb}
use Rattle.std.proofs.lemmas.Option.{cond_some, same_Some}
use Rattle.fab_model.specs.declared.tiles.Dir.{Dir}
use Rattle.fab_model.specs.declared.tiles.WireRow.{WireRow}
use Rattle.fab_model.specs.Rows.{IsWireRow, is_jump, same_dir, is_named, border_bits}
use Rattle.fab_model.specs.Tiles.{PlainTile}
use Rattle.fab_model.specs.Grid.{PlainFabric, tile_at, AllRows, AreRows, numbered_type}
use Rattle.fab_model.specs.Joins.{RowPlace, Stands, IsAhead, IsNth, goes, comes, Crosses}
use Rattle.fab_model.specs.Cascade.{opposite, step, nth_row, PlacedRow, row_of_tile, placed_row, fitting, partner_in, partner_at, next_row, previous_row}
use Rattle.fab_model.proofs.Steps.{then_gives, same_dir_is, same_dir_self, opposite_twice, step_is_ahead, ahead_is_step, ahead_turns, ahead_no_jump, item_holds, nth_row_is, is_nth_row}

-- ---- rows that stand

abbrev pub IsPlaced : PlainFabric → PlacedRow → Type 0
IsPlaced fabric here = Stands fabric here.place here.tile here.row

-- a row at a place
abbrev pub placed : RowPlace → PlainTile → WireRow → PlacedRow
placed place tile row = record { place = place; tile = tile; row = row }

-- a row that stands is found at its place
pub standing_is_placed : (fabric : PlainFabric) (here : PlacedRow) → IsPlaced fabric here → placed_row fabric here.place ≡ Some here
standing_is_placed fabric here stands =
    ap (option_and_then (row_of_tile here.place)) stands.tile_is ∙ ap (option_map (placed here.place here.tile)) stands.row_is

-- there is one row at a place
pub one_row_stands : (fabric : PlainFabric) (here other : PlacedRow) → IsPlaced fabric here → IsPlaced fabric other → here.place ≡ other.place → here ≡ other
one_row_stands fabric here other stands others same =
    same_Some here other (sym (standing_is_placed fabric here stands) ∙ ap (placed_row fabric) same ∙ standing_is_placed fabric other others)

-- a row that stands keeps what tables promise
pub numbered_type_is : (types : List PlainTile) (number : Option (Option ℕ)) (tile : PlainTile) → numbered_type types number ≡ Some tile → (n : ℕ) × (slice_get types n ≡ Some tile)
numbered_type_is types None tile h = cc
numbered_type_is types (Some None) tile h = cc
numbered_type_is types (Some (Some n)) tile h = (n, h)

-- the tile at a place is one of the types
pub tile_is_type : (fabric : PlainFabric) (x y : ℕ) (tile : PlainTile) → tile_at fabric x y ≡ Some tile → (n : ℕ) × (slice_get fabric.types n ≡ Some tile)
tile_is_type fabric x y tile h =
    elim (cases_Bool (nat_lt x fabric.columns && nat_lt y fabric.rows)) [
      | inl inside ↦ (let q : numbered_type fabric.types (slice_get fabric.grid (y * fabric.columns + x)) ≡ Some tile = rw inside at h in numbered_type_is fabric.types (slice_get fabric.grid (y * fabric.columns + x)) tile q)
      | inr outside ↦ (let q : None ≡ Some tile = rw outside at h in cc)
    ]

-- a row that stands keeps what tables promise of rows
pub standing_is_wire_row : (fabric : PlainFabric) (here : PlacedRow) → AreRows fabric → IsPlaced fabric here → IsWireRow here.row
standing_is_wire_row fabric here are stands =
    let type = tile_is_type fabric here.place.x here.place.y here.tile stands.tile_is in
    item_holds IsWireRow here.tile.rows here.place.row here.row (item_holds AllRows fabric.types type.0 here.tile are type.1) stands.row_is

-- ---- partners

-- what it is to be the partner of a row
pub record IsPartner (own other : Dir → WireRow → Bool) (toward : Dir) (fabric : PlainFabric) (here there : PlacedRow) : Type 0 where
  pub stands : IsPlaced fabric there
  pub ahead : IsAhead toward here.place.x here.place.y there.place.x there.place.y
  pub nth : IsNth (other here.row.dir) there.tile.rows there.place.row (count_by (own here.row.dir) (take here.place.row here.tile.rows)) there.row
  pub equal : border_bits there.row ≡ border_bits here.row

-- the row that is found is the partner
pub partner_is : (own other : Dir → WireRow → Bool) (fabric : PlainFabric) (here there : PlacedRow) (toward : Dir) → option_and_then (partner_at own other fabric here) (step toward here.place.x here.place.y) ≡ Some there → IsPartner own other toward fabric here there
partner_is own other fabric here there toward h =
    let i = count_by (own here.row.dir) (take here.place.row here.tile.rows) in
    let at = then_gives (partner_at own other fabric here) (step toward here.place.x here.place.y) there h in
    let tile = then_gives (partner_in own other here at.0) (tile_at fabric at.0.0 at.0.1) there at.2 in
    let found = then_gives (fitting (border_bits here.row) at.0.0 at.0.1 tile.0) (nth_row (other here.row.dir) tile.0.rows 0 i) there tile.2 in
    let fits = cond_some (nat_eq (border_bits found.0.1) (border_bits here.row)) (placed (record { x = at.0.0; y = at.0.1; row = found.0.0 }) tile.0 found.0.1) there found.2 in
    let nth = nth_row_is (other here.row.dir) tile.0.rows 0 i found.0 found.1 in
    let number_is : nth.0 ≡ found.0.0 = omega (arith, nth.1) in
    let is_nth = subst (λ number. IsNth (other here.row.dir) tile.0.rows number i found.0.1) number_is nth.2 in
    subst (IsPartner own other toward fabric here) fits.1 (record {
      stands = record { tile_is = tile.1; row_is = is_nth.0 };
      ahead = step_is_ahead toward here.place.x here.place.y at.0 at.1;
      nth = is_nth;
      equal = eqb-true (border_bits found.0.1) (border_bits here.row) fits.0;
    })

-- the partner is found
pub is_partner : (own other : Dir → WireRow → Bool) (fabric : PlainFabric) (here there : PlacedRow) (toward : Dir) → IsPartner own other toward fabric here there → option_and_then (partner_at own other fabric here) (step toward here.place.x here.place.y) ≡ Some there
is_partner own other fabric here there toward is =
    let i = count_by (own here.row.dir) (take here.place.row here.tile.rows) in
    let at : ℕ × ℕ = (there.place.x, there.place.y) in
    let found : ℕ × WireRow = (there.place.row, there.row) in
    ap (option_and_then (partner_at own other fabric here)) (ahead_is_step toward here.place.x here.place.y there.place.x there.place.y is.ahead)
    ∙ ap (option_and_then (partner_in own other here at)) is.stands.tile_is
    ∙ ap (option_and_then (fitting (border_bits here.row) at.0 at.1 there.tile)) (is_nth_row (other here.row.dir) there.tile.rows 0 there.place.row i there.row is.nth ∙ ap (λ number. Some (number, there.row)) (omega arith))
    ∙ ap (λ fits. cond fits (Some there) None) (eq-eqb (border_bits there.row) (border_bits here.row) is.equal)

-- ---- crossings

-- a row that goes out has the direction and a source
pub goes_from : (dir : Dir) (row : WireRow) → goes dir row ≡ true → (row.dir ≡ dir) × (is_named row.source ≡ true)
goes_from dir row h = let parts = and_parts (same_dir row.dir dir) (is_named row.source) h in (same_dir_is row.dir dir parts.0, parts.1)

-- a row that comes in has the direction and a destination
pub comes_from : (dir : Dir) (row : WireRow) → comes dir row ≡ true → (row.dir ≡ dir) × (is_named row.dest ≡ true)
comes_from dir row h = let parts = and_parts (same_dir row.dir dir) (is_named row.dest) h in (same_dir_is row.dir dir parts.0, parts.1)

-- the rows of a crossing, with their places
abbrev pub crossing_from : {fabric : PlainFabric} {here there : RowPlace} → Crosses fabric here there → PlacedRow
crossing_from {fabric} {here} {there} crossing = placed here crossing.tile crossing.row

abbrev pub crossing_to : {fabric : PlainFabric} {here there : RowPlace} → Crosses fabric here there → PlacedRow
crossing_to {fabric} {here} {there} crossing = placed there crossing.next_tile crossing.next_row

-- what is known of both rows of a crossing
pub record Crossed (here there : PlacedRow) : Type 0 where
  pub same_dir : there.row.dir ≡ here.row.dir
  pub no_jump : is_jump here.row.dir ≡ false
  pub next_no_jump : is_jump there.row.dir ≡ false
  pub has_source : is_named here.row.source ≡ true
  pub has_dest : is_named there.row.dest ≡ true
  pub equal : border_bits here.row ≡ border_bits there.row

-- each crossing is so
pub crossed : {fabric : PlainFabric} {here there : RowPlace} (crossing : Crosses fabric here there) → Crossed (crossing_from crossing) (crossing_to crossing)
crossed {fabric} {here} {there} crossing =
    let goes_on = goes_from crossing.row.dir crossing.row crossing.nth.1 in
    let comes_on = comes_from crossing.row.dir crossing.next_row crossing.next_nth.1 in
    let no_jump = ahead_no_jump crossing.row.dir here.x here.y there.x there.y crossing.ahead in
    record {
      same_dir = comes_on.0;
      no_jump = no_jump;
      next_no_jump = ap is_jump comes_on.0 ∙ no_jump;
      has_source = goes_on.1;
      has_dest = comes_on.1;
      equal = crossing.equal;
    }

-- the next row of a row that crosses is the one to which it crosses
pub crosses_next : {fabric : PlainFabric} {here there : RowPlace} (crossing : Crosses fabric here there) → next_row fabric (crossing_from crossing) ≡ Some (crossing_to crossing)
crosses_next {fabric} {here} {there} crossing =
    is_partner goes comes fabric (crossing_from crossing) (crossing_to crossing) crossing.row.dir (record {
      stands = crossing.next_stands;
      ahead = crossing.ahead;
      nth = (crossing.next_nth.0, crossing.next_nth.1, crossing.next_nth.2 ∙ sym crossing.nth.2);
      equal = sym crossing.equal;
    })

-- the previous row of a row to which one crosses is that one
pub crosses_previous : {fabric : PlainFabric} {here there : RowPlace} (crossing : Crosses fabric here there) → previous_row fabric (crossing_to crossing) ≡ Some (crossing_from crossing)
crosses_previous {fabric} {here} {there} crossing =
    let same : crossing.row.dir ≡ crossing.next_row.dir = sym (crossed crossing).same_dir in
    is_partner comes goes fabric (crossing_to crossing) (crossing_from crossing) (opposite crossing.next_row.dir) (record {
      stands = crossing.stands;
      ahead = subst (λ dir. IsAhead (opposite dir) there.x there.y here.x here.y) same (ahead_turns crossing.row.dir here.x here.y there.x there.y crossing.ahead);
      nth = subst (λ dir. IsNth (goes dir) crossing.tile.rows here.row (count_by (comes dir) (take there.row crossing.next_tile.rows)) crossing.row) same
          (crossing.nth.0, crossing.nth.1, crossing.nth.2 ∙ sym crossing.next_nth.2);
      equal = crossing.equal;
    })

-- a row with a source crosses to its next row
abbrev pub next_crosses : (fabric : PlainFabric) (here there : PlacedRow) → IsPlaced fabric here → is_named here.row.source ≡ true → next_row fabric here ≡ Some there → Crosses fabric here.place there.place
next_crosses fabric here there stands named h =
    let is = partner_is goes comes fabric here there here.row.dir h in
    record {
      tile = here.tile;
      row = here.row;
      next_tile = there.tile;
      next_row = there.row;
      stands = stands;
      next_stands = is.stands;
      ahead = is.ahead;
      i = count_by (goes here.row.dir) (take here.place.row here.tile.rows);
      nth = (stands.row_is, and_from (same_dir here.row.dir here.row.dir) (is_named here.row.source) (same_dir_self here.row.dir) named, refl);
      next_nth = is.nth;
      equal = sym is.equal;
    }

-- to a row with a destination its previous row crosses
abbrev pub previous_crosses : (fabric : PlainFabric) (here there : PlacedRow) → IsPlaced fabric there → is_named there.row.dest ≡ true → previous_row fabric there ≡ Some here → Crosses fabric here.place there.place
previous_crosses fabric here there stands named h =
    let is = partner_is comes goes fabric there here (opposite there.row.dir) h in
    let same : there.row.dir ≡ here.row.dir = sym (goes_from there.row.dir here.row is.nth.1).0 in
    let ahead : IsAhead there.row.dir here.place.x here.place.y there.place.x there.place.y =
    subst (λ dir. IsAhead dir here.place.x here.place.y there.place.x there.place.y) (opposite_twice there.row.dir) (ahead_turns (opposite there.row.dir) there.place.x there.place.y here.place.x here.place.y is.ahead) in
    record {
      tile = here.tile;
      row = here.row;
      next_tile = there.tile;
      next_row = there.row;
      stands = is.stands;
      next_stands = stands;
      ahead = subst (λ dir. IsAhead dir here.place.x here.place.y there.place.x there.place.y) same ahead;
      i = count_by (comes there.row.dir) (take there.place.row there.tile.rows);
      nth = subst (λ dir. IsNth (goes dir) here.tile.rows here.place.row (count_by (comes there.row.dir) (take there.place.row there.tile.rows)) here.row) same is.nth;
      next_nth = subst (λ dir. IsNth (comes dir) there.tile.rows there.place.row (count_by (comes there.row.dir) (take there.place.row there.tile.rows)) there.row) same
          (stands.row_is, and_from (same_dir there.row.dir there.row.dir) (is_named there.row.dest) (same_dir_self there.row.dir) named, refl);
      equal = is.equal;
    }
