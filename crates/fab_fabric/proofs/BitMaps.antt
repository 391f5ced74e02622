-- One bit is set.
use Rattle.std.proofs.Common.{◌≡◌, ℕ, ◌<◌, Bool, false, List, [], Vec, length, map, get_or, set, refl, sym, ap, ◌∙◌, arith, subst, inl, inr}
use Rattle.std.proofs.lemmas.Bool.Decides.{eqb_tells}
use Rattle.std.proofs.lemmas.List.{map-set, length-map, length-set, get_or-set_same, get_or-set_other, get_or-map}
use Rattle.fab_fabric.specs.Bits.{column_bits, place_bits, plain_bits, bits_of_column, bits_of_columns, HasBit, SetsBit}

-- the bits with one of them set
abbrev pub with_bit : (bits : List (List (List Bool))) (x y bit : ℕ) (value : Bool) → List (List (List Bool))
with_bit bits x y bit value = set bits x (set (column_bits bits x) y (set (place_bits bits x y) bit value))

-- what holds of an item of a list with another item set
item_set : {X : Type 0} (P : X → Type 0) (xs : List X) (i k : ℕ) (v d : X) → i < length xs → (i ≡ k → P v) → ((i ≡ k → ⊥) → P (get_or xs k d)) → P (get_or (set xs i v) k d)
item_set P xs i k v d few here there =
    elim (eqb_tells i k) [
      | inl t ↦ subst P (sym (ap (λ n. get_or (set xs i v) n d) (sym t.1) ∙ get_or-set_same xs i v d few)) (here t.1)
      | inr f ↦ subst P (sym (get_or-set_other xs i k v d (λ e. f.1 (sym e)))) (there f.1)
    ]

pub bit_is_set : (bits : List (List (List Bool))) (x y bit : ℕ) (value : Bool) → HasBit bits x y bit → SetsBit bits (with_bit bits x y bit value) x y bit value
bit_is_set bits x y bit value has =
    let column = column_bits bits x in
    let place = place_bits bits x y in
    let new_place = set place bit value in
    let new_column = set column y new_place in
    let rows : length new_column ≡ length column = length-set column y new_place in
    let places : (y2 : ℕ) → length (get_or new_column y2 []) ≡ length (get_or column y2 []) = λ y2.
    item_set (λ (p : List Bool). length p ≡ length (get_or column y2 [])) column y y2 new_place [] has.row (λ e. length-set place bit value ∙ ap (λ k. length (get_or column k [])) e) (λ other. refl) in
    let kept : (y2 bit2 : ℕ) → (y2 ≡ y → bit2 ≡ bit → ⊥) → get_or (get_or new_column y2 []) bit2 false ≡ get_or (get_or column y2 []) bit2 false = λ y2 bit2 apart.
    item_set (λ (p : List Bool). get_or p bit2 false ≡ get_or (get_or column y2 []) bit2 false) column y y2 new_place [] has.row
    (λ e. get_or-set_other place bit bit2 value false (λ same. apart (sym e) same) ∙ ap (λ k. get_or (get_or column k []) bit2 false) e) (λ other. refl) in
    record {
      same_columns = length-set bits x new_column;
      same_rows = λ x2. item_set (λ (c : List (List Bool)). length c ≡ length (column_bits bits x2)) bits x x2 new_column [] has.column (λ e. rows ∙ ap (λ k. length (column_bits bits k)) e) (λ other. refl);
      same_tiles = λ x2 y2.
          item_set (λ (c : List (List Bool)). length (get_or c y2 []) ≡ length (place_bits bits x2 y2)) bits x x2 new_column [] has.column (λ e. places y2 ∙ ap (λ k. length (place_bits bits k y2)) e) (λ other. refl);
      set =
          ap (λ (c : List (List Bool)). get_or (get_or c y []) bit false) (get_or-set_same bits x new_column [] has.column)
          ∙ ap (λ (p : List Bool). get_or p bit false) (get_or-set_same column y new_place [] has.row)
          ∙ get_or-set_same place bit value false has.number;
      kept = λ x2 y2 bit2 apart.
          item_set (λ (c : List (List Bool)). get_or (get_or c y2 []) bit2 false ≡ plain_bits bits x2 y2 bit2) bits x x2 new_column [] has.column
          (λ e. kept y2 bit2 (apart (sym e)) ∙ ap (λ k. plain_bits bits k y2 bit2) e) (λ other. refl);
    }

-- the bits that are kept, with one of them set
pub kept_set : {A B : Type 0} (columns new : List (Vec (Vec Bool A) B)) (column new_column : Vec (Vec Bool A) B) (tile new_tile : Vec Bool A) (x y bit : ℕ) (value : Bool) →
    HasBit (bits_of_columns columns) x y bit → column ≡ get_or columns x column → tile ≡ get_or column.items y tile →
    new_tile.items ≡ set tile.items bit value → new_column.items ≡ set column.items y new_tile → new ≡ set columns x new_column → bits_of_columns new ≡ with_bit (bits_of_columns columns) x y bit value
kept_set {A} {B} columns new column new_column tile new_tile x y bit value has column_is tile_is new_tile_is new_column_is new_is =
    let tiles : Vec Bool A → List Bool = λ t. t.items in
    let of_column : Vec (Vec Bool A) B → List (List Bool) = λ c. bits_of_column c.items in
    let few : x < length columns = omega (arith, has.column, length-map columns of_column) in
    let column_at : column_bits (bits_of_columns columns) x ≡ bits_of_column column.items = get_or-map of_column columns x column [] few ∙ ap of_column (sym column_is) in
    let low : y < length column.items = omega (arith, has.row, ap length column_at, length-map column.items tiles) in
    let place_at : get_or (bits_of_column column.items) y [] ≡ tile.items = get_or-map tiles column.items y tile [] low ∙ ap tiles (sym tile_is) in
    ap (map of_column) new_is
    ∙ map-set of_column columns x new_column
    ∙ ap (set (bits_of_columns columns) x) (
    ap (map tiles) new_column_is
    ∙ map-set tiles column.items y new_tile
    ∙ ap (set (bits_of_column column.items) y) (new_tile_is ∙ ap (λ p. set p bit value) (sym place_at))
    ∙ sym (ap (λ (c : List (List Bool)). set c y (set (get_or c y []) bit value)) column_at))
