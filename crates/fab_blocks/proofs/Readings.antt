-- What was read stays sound with one row more.
use Rattle.std.proofs.Common.{◌≡◌, ◌≢◌, ℕ, zero, suc, length-append, Vec, ◌<◌, ◌≤◌, ◌==◌, Bool, true, false, ◌||◌, Option, Some, None, List, [], ◌∷◌, ◌++◌, map, length, get_or, refl, sym, ap, ◌∙◌, subst, inl, inr, arith}
use Rattle.std.specs.Prelude.{All, AllPairs, not, nat_lt, nat_le, if◌then◌else◌, unwrap_or}
use Rattle.std.specs.List.{list_any, list_all}
use Rattle.std.specs.Option.{ForSome, option_map}
use Rattle.std.specs.Str.{bytes_eq}
use Rattle.std.proofs.lemmas.Bool.{cases_Bool}
use Rattle.std.proofs.lemmas.Bool.Decides.{nat_tests}
use Rattle.std.proofs.lemmas.List.Quantifiers.{all_pairs_push}
use Rattle.std.proofs.lemmas.List.Elements.{All-push}
use Rattle.std.proofs.lemmas.Slice.Eq.{bytes_eq-Decides}
use Rattle.fab_base.specs.declared.problem.Problem.{Problem}
use Rattle.fab_base.specs.declared.words.Reason.{Reason}
use Rattle.fab_model.specs.Tiles.{PlainTile}
use Rattle.fab_blocks.specs.declared.standing.OpenBlock.{OpenBlock}
use Rattle.fab_blocks.specs.declared.standing.OpenBlock.TheVariants as blocks
use Rattle.fab_blocks.specs.declared.standing.Place.TheVariants as places
use Rattle.fab_blocks.specs.declared.standing.Said.{Said}
use Rattle.fab_blocks.specs.declared.standing.Said.TheVariants as said
use Rattle.fab_blocks.specs.Blocks.{PlainBlock, new_block}
use Rattle.fab_blocks.specs.Inner.{IsPlain}
use Rattle.fab_blocks.specs.Cells.{problem_of, is_tile_name, cell_at}
use Rattle.fab_lines.specs.Items.{is_among}
use Rattle.fab_blocks.specs.Reading.{PlainReading, PlainHolder, PlainGridLine, HasRoom, IsGrid, IsReading, tile_names, open_name, place_in, HasLines, HasRoomFor, with_open_block}
use Rattle.fab_blocks.specs.Saying.{line_reason, line_limit, line_problem, fits_grid, is_grid_cell, begin_reason, begin_limit, begin_problem, stands, is_place, HasRoomIfEnded}

-- ---- tests that are passed

pub passed : {X : Type 0} (b : Bool) (x : X) (rest : Option X) → (if not b then Some x else rest) ≡ None → (b ≡ true) × (rest ≡ None)
passed true x rest h = (refl, h)
passed false x rest h = absurd cc

pub failed : {X : Type 0} (b : Bool) (x : X) (rest : Option X) → (if b then Some x else rest) ≡ None → (b ≡ false) × (rest ≡ None)
failed true x rest h = absurd cc
failed false x rest h = (refl, h)

pub no_problem : (reason : Option Reason) (other : Option Problem) → problem_of reason other ≡ None → (reason ≡ None) × (other ≡ None)
no_problem None other h = (refl, h)
no_problem (Some reason) other h = absurd cc

some_same : {X : Type 0} (x y : X) → Some x ≡ Some y → x ≡ y
some_same x y same = cc

-- ---- the grid

line_reason_fits : (lines : List PlainGridLine) (cells : List (List ℕ)) → line_reason lines cells ≡ None → fits_grid lines cells ≡ true
unfolding line_reason
line_reason_fits lines cells h = (passed (fits_grid lines cells) _ None (passed (list_all is_grid_cell cells) _ _ h).1).0

line_limit_columns : (lines : List PlainGridLine) (cells : List (List ℕ)) → line_limit lines cells ≡ None → (length cells ≤ 32) × (length lines < 31)
unfolding line_limit
line_limit_columns lines cells h =
    let wide = failed (nat_lt 32 (length cells)) _ _ h in
    let long = failed (nat_le 31 (length lines)) _ _ wide.1 in
    let narrow : nat_lt 32 (length cells) ≡ false = wide.0 in
    let short : nat_le 31 (length lines) ≡ false = long.0 in
    (grind (arith, nat_tests), grind (arith, nat_tests))

fits_first : (lines : List PlainGridLine) (cells : List (List ℕ)) (i : ℕ) (d : PlainGridLine) → AllPairs (λ first second. length first.cells ≡ length second.cells) lines
    → fits_grid lines cells ≡ true → i < length lines → length (get_or lines i d).cells ≡ length cells
unfolding fits_grid
fits_first [] cells i d alike fits within = absurd (omega arith)
fits_first (first ∷ more) cells i d alike fits within =
    let same : length first.cells ≡ length cells = grind (arith, nat_tests) in
    elim (cases_Bool (i == 0)) [
      | inl at ↦ (let zero : i ≡ 0 = grind (arith, nat_tests) in rw zero same)
      | inr past ↦ (let above : 0 < i = grind (arith, nat_tests) in sym (alike 0 i d above within) ∙ same)
    ]

-- one line more
pub grid_more : (lines : List PlainGridLine) (line : PlainGridLine) → IsGrid lines → line_problem lines line.cells ≡ None → 0 < length line.cells → IsGrid (lines ++ line ∷ [])
grid_more lines line grid fine some =
    let parts = no_problem (line_reason lines line.cells) (line_limit lines line.cells) fine in
    let fits = line_reason_fits lines line.cells parts.0 in
    let small = line_limit_columns lines line.cells parts.1 in
    record {
      few_rows = omega (arith, small.1, length-append lines (line ∷ []));
      some_columns = All-push (λ (l : PlainGridLine). 1 ≤ length l.cells) lines line grid.some_columns (omega arith);
      few_columns = All-push (λ (l : PlainGridLine). length l.cells ≤ 32) lines line grid.few_columns small.0;
      alike = all_pairs_push (λ (first second : PlainGridLine). length first.cells ≡ length second.cells) lines line grid.alike (λ k d within. fits_first lines line.cells k d grid.alike fits within);
    }

no_lines : IsGrid []
no_lines = record { few_rows = omega arith; some_columns = λ k d within. absurd (omega arith); few_columns = λ k d within. absurd (omega arith); alike = λ i j d lt within. absurd (omega arith) }

pub lines_are_grid : (grid : Option (List PlainGridLine)) → ForSome grid IsGrid → IsGrid (unwrap_or grid [])
lines_are_grid None h = no_lines
lines_are_grid (Some lines) h = h lines refl

-- ---- tiles

pub among_names : (name : List ℕ) (types : List PlainTile) (more : List (List ℕ))
    → (list_any (λ (tile : PlainTile). bytes_eq name tile.name) types || list_any (bytes_eq name) more) ≡ list_any (bytes_eq name) (map (λ (tile : PlainTile). tile.name) types ++ more)
among_names name [] more = refl
among_names name (tile ∷ types) more =
    elim (cases_Bool (bytes_eq name tile.name)) [
      | inl same ↦ rw same refl
      | inr other ↦ rw other (among_names name types more)
    ]

second_of_either : (a b : Bool) → (a || b) ≡ false → b ≡ false
second_of_either true b h = absurd cc
second_of_either false b h = h

first_of_either : (a b : Bool) → (a || b) ≡ false → a ≡ false
first_of_either true b h = absurd cc
first_of_either false b h = refl

false_is_not_true : {P : Type 0} (b : Bool) → b ≡ false → b ≡ true → P
false_is_not_true b fails holds = absurd cc

none_called : (name : List ℕ) (types : List PlainTile) → list_any (λ (tile : PlainTile). bytes_eq name tile.name) types ≡ false → All (λ (tile : PlainTile). tile.name ≢ name) types
none_called name [] none k d within = absurd (omega arith)
none_called name (tile ∷ types) none zero d within = λ same.
    false_is_not_true (bytes_eq name tile.name) (first_of_either (bytes_eq name tile.name) _ none) ((bytes_eq-Decides name tile.name).1 (sym same))
none_called name (tile ∷ types) none (suc k) d within =
    none_called name types (second_of_either (bytes_eq name tile.name) _ none) k d (omega arith)

begin_facts : (reading : PlainReading) (holder : PlainHolder) (cells : List (List ℕ)) → begin_reason reading holder cells ≡ None
    → (is_among (tile_names reading) (cell_at cells 1) ≡ false) × (stands reading holder places.Outside ≡ true)
unfolding begin_reason
begin_facts reading holder cells h =
    let two = passed (length cells == 2) _ _ h in
    let named = passed (is_tile_name (cell_at cells 1)) _ _ two.1 in
    let fresh = failed (is_among (tile_names reading) (cell_at cells 1)) _ _ named.1 in
    let outside = passed (stands reading holder places.Outside) _ None fresh.1 in
    (fresh.0, outside.0)

begin_room : (reading : PlainReading) (name : List ℕ) → begin_limit reading name ≡ None → length reading.types < 64
unfolding begin_limit
begin_room reading name h =
    let few : nat_le 64 (length reading.types) ≡ false = (failed (nat_le 64 (length reading.types)) _ _ h).0 in
    grind (arith, nat_tests)

-- a tile may begin
pub begin_has_room : (reading : PlainReading) (holder : PlainHolder) (cells : List (List ℕ)) → begin_problem reading holder cells ≡ None → HasRoom reading.types (cell_at cells 1) []
begin_has_room reading holder cells fine =
    let parts = no_problem (begin_reason reading holder cells) (begin_limit reading (cell_at cells 1)) fine in
    let fresh = among_names (cell_at cells 1) reading.types (open_name reading.begun) ∙ (begin_facts reading holder cells parts.0).0 in
    record {
      fresh = none_called (cell_at cells 1) reading.types (first_of_either _ _ fresh);
      room = begin_room reading (cell_at cells 1) parts.1;
      few_bels = omega arith;
    }

outside_of : (begun : OpenBlock) (reading : PlainReading) (holder : PlainHolder) → begun ≡ reading.begun → stands reading holder places.Outside ≡ true → begun ≡ blocks.Outside
unfolding stands is_place
outside_of blocks.Outside reading holder is h = refl
outside_of blocks.Grid reading holder is h = absurd (let e = ap (λ (m : OpenBlock). is_place (place_in m reading.parameters holder.is_fabric) places.Outside) is ∙ h in cc)
outside_of (blocks.Tile block) reading holder is h = absurd (let e = ap (λ (m : OpenBlock). is_place (place_in m reading.parameters holder.is_fabric) places.Outside) is ∙ h in cc)

-- and no other block is open
pub begin_outside : (reading : PlainReading) (holder : PlainHolder) (cells : List (List ℕ)) → begin_problem reading holder cells ≡ None → reading.begun ≡ blocks.Outside
begin_outside reading holder cells fine =
    let parts = no_problem (begin_reason reading holder cells) (begin_limit reading (cell_at cells 1)) fine in
    outside_of reading.begun reading holder refl (begin_facts reading holder cells parts.0).1

-- one tile more
pub names_more : (types : List PlainTile) (tile : PlainTile) → AllPairs (λ (first second : PlainTile). first.name ≢ second.name) types → All (λ (t : PlainTile). t.name ≢ tile.name) types
    → AllPairs (λ (first second : PlainTile). first.name ≢ second.name) (types ++ tile ∷ [])
names_more types tile apart fresh = all_pairs_push (λ (first second : PlainTile). first.name ≢ second.name) types tile apart fresh

-- ---- readings

for_some : {X : Type 0} (P : X → Type 0) (x : X) → P x → ForSome (Some x) P
for_some P x p y is = subst P (some_same x y is) p

has_lines : (begun : OpenBlock) (lines : List PlainGridLine) → 1 ≤ length lines → HasLines begun lines
has_lines blocks.Grid lines some = tt
has_lines blocks.Outside lines some = some
has_lines (blocks.Tile block) lines some = some

-- with other lines in the grid
pub sound_lines : (reading : PlainReading) (lines : List PlainGridLine) → IsReading reading → IsGrid lines → 1 ≤ length lines
    → IsReading (record reading { grid = Some lines })
sound_lines reading lines sound grid some = record {
  names = sound.names;
  few_types = sound.few_types;
  few_bels = sound.few_bels;
  room = sound.room;
  grid = for_some IsGrid lines grid;
  lines = for_some (HasLines reading.begun) lines (has_lines reading.begun lines some);
}

-- with the block of a tile that is open
pub sound_open : (reading : PlainReading) (block : PlainBlock) → IsReading reading → reading.begun ≡ blocks.Outside → HasRoom reading.types block.name block.bels → IsReading (with_open_block reading (blocks.Tile block))
sound_open reading block sound outside room = record {
  names = sound.names;
  few_types = sound.few_types;
  few_bels = sound.few_bels;
  room = room;
  grid = sound.grid;
  lines = subst (λ (begun : OpenBlock). ForSome reading.grid (HasLines begun)) outside sound.lines;
}

-- when the block of a tile has ended
pub sound_closed : (reading : PlainReading) (block : PlainBlock) (begun : OpenBlock) → IsReading reading → reading.begun ≡ blocks.Tile block → begun ≡ blocks.Outside → IsReading (with_open_block reading begun)
sound_closed reading block begun sound was outside = record {
  names = sound.names;
  few_types = sound.few_types;
  few_bels = sound.few_bels;
  room = subst (HasRoomFor reading.types) (sym outside) tt;
  grid = sound.grid;
  lines = λ lines is. subst (λ (m : OpenBlock). HasLines m lines) (sym outside) (subst (λ (m : OpenBlock). HasLines m lines) was (sound.lines lines is));
}

-- with one tile more
pub sound_type : (reading : PlainReading) (types : List PlainTile) (tile : PlainTile) → IsReading reading → reading.begun ≡ blocks.Outside → HasRoom reading.types tile.name tile.bels → types ≡ reading.types ++ tile ∷ []
    → IsReading (record reading { types = types })
sound_type reading types tile sound outside room is = subst (λ (now : List PlainTile). IsReading (record reading { types = now })) (sym is) (record {
  names = names_more reading.types tile sound.names room.fresh;
  few_types = omega (arith, room.room, length-append reading.types (tile ∷ []));
  few_bels = All-push (λ (t : PlainTile). length t.bels ≤ 26) reading.types tile sound.few_bels room.few_bels;
  room = subst (HasRoomFor (reading.types ++ tile ∷ [])) (sym outside) tt;
  grid = sound.grid;
  lines = sound.lines;
})

pub room_of_new : (types : List PlainTile) (block : PlainBlock) (name : List ℕ) → block ≡ new_block name → HasRoom types name [] → HasRoom types block.name block.bels
room_of_new types block name is room = subst (λ (b : PlainBlock). HasRoom types b.name b.bels) (sym is) room

pub room_of_next : (types : List PlainTile) (old new : PlainBlock) → HasRoom types old.name old.bels → new.name ≡ old.name → length new.bels ≤ 26 → HasRoom types new.name new.bels
room_of_next types old new room same few = record {
  fresh = subst (λ (name : List ℕ). All (λ (tile : PlainTile). tile.name ≢ name) types) (sym same) room.fresh;
  room = room.room;
  few_bels = few;
}

pub items_of : {X A : Type 0} (found : Option (Vec X A)) (none : Vec X A) → none.items ≡ [] → (unwrap_or found none).items ≡ unwrap_or (option_map (λ (v : Vec X A). v.items) found) []
items_of None none empty = empty
items_of (Some v) none empty = refl

-- what ends no block leaves no tile to be pushed
pub plain_room : (reading : PlainReading) (says : Said) → IsPlain says → HasRoomIfEnded reading says
plain_room reading said.Taken h = tt
plain_room reading (said.Includes file) h = tt
plain_room reading (said.NamesTiles file) h = tt
plain_room reading (said.EndsTile block) h = absurd h
