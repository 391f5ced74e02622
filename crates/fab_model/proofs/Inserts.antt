-- Names that are inserted one after another.
use Rattle.std.proofs.Common.{◌≡◌, ◌≢◌, ℕ, zero, suc, ◌+◌, ◌<◌, Bool, false, not, ◌||◌, cond, List, [], ◌∷◌, ◌++◌, Vec, AllPairs, map, length, get_or, take, refl, sym, ap, ◌∙◌, subst, inl, inr, arith, add-one, append_assoc, append-nil, position, ◌-◌, slice_get, Some}
use Rattle.std.specs.List.{list_any, position_or_len, flat_map}
use Rattle.std.specs.Str.{bytes_eq}
use Rattle.std.proofs.lemmas.Bool.{cases_Bool}
use Rattle.fab_select.proofs.Firsts.{told}
use Rattle.std.proofs.lemmas.List.{map-append, get_or_append_left, get_or-append_right, length-map, length-append, map_push, flat_map_more, take_more}
use Rattle.std.proofs.lemmas.List.Folds.{list_any_none}
use Rattle.std.proofs.lemmas.List.Sums.{fold-append}
use Rattle.std.proofs.lemmas.Option.{get_or_from_slice_get}
use Rattle.std.proofs.lemmas.Slice.Eq.{bytes_eq-Decides}
use Rattle.indexmap.specs.IndexSet.{insert_key, insert_all}
use Rattle.fab_model.specs.Tiles.{counted, row_wires, bel_wires, wire_name, source_bit, dest_bit}
use Rattle.fab_model.specs.Rows.{source_bits, dest_bits, bit_name}
use Rattle.fab_model.specs.declared.tiles.WireRow.{WireRow}
use Rattle.fab_model.specs.declared.tiles.Bel.{Bel}
use Rattle.fab_kinds.specs.fab_bits.specs.Keys.{key_names}

-- ---- keys as names

any_of_names : {A : Type 0} (name : List ℕ) (keys : List (Vec ℕ A)) → list_any (λ key. bytes_eq name key.items) keys ≡ list_any (bytes_eq name) (key_names keys)
any_of_names name [] = refl
any_of_names name (key ∷ keys) = ap (λ rest. bytes_eq name key.items || rest) (any_of_names name keys)

-- the names of keys after one more
pub names_of_insert : {A : Type 0} (keys : List (Vec ℕ A)) (key : Vec ℕ A) →
    key_names (insert_key (λ (a b : Vec ℕ A). bytes_eq a.items b.items) keys key) ≡ insert_key bytes_eq (key_names keys) key.items
names_of_insert {A} keys key =
    let any = any_of_names key.items keys in
    elim (cases_Bool (list_any (bytes_eq key.items) (key_names keys))) [
      | inl t ↦ rw (any, t) refl
      | inr f ↦ rw (any, f) (map-append (λ (k : Vec ℕ A). k.items) keys (key ∷ []))
    ]

first_of_names : {A : Type 0} (name : List ℕ) (keys : List (Vec ℕ A)) → position_or_len (λ key. bytes_eq name key.items) keys ≡ position_or_len (bytes_eq name) (key_names keys)
first_of_names name [] = refl
first_of_names name (key ∷ keys) = ap (λ n. cond (not (bytes_eq name key.items)) (1 + n) 0) (first_of_names name keys)

-- a key stands where its name stands
pub place_of_name : {A : Type 0} (name : List ℕ) (keys : List (Vec ℕ A)) → position (λ key. bytes_eq name key.items) keys ≡ position (bytes_eq name) (key_names keys)
place_of_name {A} name keys = rw (first_of_names name keys, length-map keys (λ (k : Vec ℕ A). k.items)) refl

-- ---- counted lists

counted_last : {X : Type 0} (n : ℕ) (f : ℕ → X) → counted (suc n) f ≡ counted n f ++ f n ∷ []
unfolding counted
counted_last zero f = refl
counted_last (suc n) f = ap (λ rest. f 0 ∷ rest) (counted_last n (λ i. f (suc i)))

pub counted_more : {X : Type 0} (n : ℕ) (f : ℕ → X) → counted (n + 1) f ≡ counted n f ++ f n ∷ []
counted_more n f = rw add-one (counted_last n f)

pub map_counted : {X Y : Type 0} (g : X → Y) (n : ℕ) (f : ℕ → X) → map g (counted n f) ≡ counted n (λ i. g (f i))
unfolding counted
map_counted g zero f = refl
map_counted g (suc n) f = ap (λ rest. g (f 0) ∷ rest) (map_counted g n (λ i. f (suc i)))

-- ---- inserting lists

module _ {K : Type 0} (same : K → K → Bool) where
  pub insert_more : (keys xs : List K) (x : K) → insert_key same (insert_all same keys xs) x ≡ insert_all same keys (xs ++ x ∷ [])
  insert_more keys xs x = sym (fold-append (insert_key same) keys xs (x ∷ []))

  pub insert_both : (keys xs ys : List K) → insert_all same (insert_all same keys xs) ys ≡ insert_all same keys (xs ++ ys)
  insert_both keys xs ys = sym (fold-append (insert_key same) keys xs ys)

not_equal : (first second : List ℕ) → first ≢ second → bytes_eq first second ≡ false
not_equal first second apart = elim (told bytes_eq bytes_eq-Decides first second) [ inl t ↦ absurd (apart t.1) | inr f ↦ f.0 ]

-- names that differ are inserted as they stand
all_new : (done names : List (List ℕ)) → AllPairs (λ first second. first ≢ second) (done ++ names) → insert_all bytes_eq done names ≡ done ++ names
all_new done [] apart = sym (append-nil done)
all_new done (name ∷ names) apart =
    let whole : List (List ℕ) = done ++ name ∷ names in
    let at_name : (d : List ℕ) → get_or whole (length done) d ≡ name = λ d.
    get_or-append_right done (name ∷ names) (length done) (length done) d refl (omega arith) ∙ (let none : length done - length done ≡ 0 = omega arith in rw none refl) in
    let inside : length done < length whole = omega (arith, length-append done (name ∷ names)) in
    let differs : (k : ℕ) (d : List ℕ) → k < length done → name ≢ get_or done k d =
    λ k d l equal. apart k (length done) d l inside (get_or_append_left done (name ∷ names) d k l ∙ sym equal ∙ sym (at_name d)) in
    let new : list_any (bytes_eq name) done ≡ false =
    list_any_none (bytes_eq name) done (λ k d l. not_equal name (get_or done k d) (differs k d l)) in
    let regroup : (done ++ name ∷ []) ++ names ≡ whole = append_assoc done (name ∷ []) names in
    rw new (all_new (done ++ name ∷ []) names (subst (AllPairs (λ first second. first ≢ second)) (sym regroup) apart) ∙ regroup)

pub all_inserted : (names : List (List ℕ)) → AllPairs (λ first second. first ≢ second) names → insert_all bytes_eq [] names ≡ names
all_inserted names apart = all_new [] names apart

-- one more counted wire
pub counted_inserted : {X : Type 0} (name_of : X → List ℕ) (wire : ℕ → X) (keys now_keys more_keys : List (List ℕ)) (n : ℕ) (name : List ℕ) →
    now_keys ≡ insert_all bytes_eq keys (map name_of (counted n wire)) → more_keys ≡ insert_key bytes_eq now_keys name → name ≡ name_of (wire n) →
    more_keys ≡ insert_all bytes_eq keys (map name_of (counted (n + 1) wire))
counted_inserted name_of wire keys now_keys more_keys n name so_far inserted is =
    inserted
    ∙ (λ j. insert_key bytes_eq (so_far j) (is j))
    ∙ insert_more bytes_eq keys (map name_of (counted n wire)) (name_of (wire n))
    ∙ ap (insert_all bytes_eq keys) (sym (map_push name_of (counted n wire) (wire n)) ∙ sym (ap (map name_of) (counted_more n wire)))

pub none_counted : {X : Type 0} (name_of : X → List ℕ) (wire : ℕ → X) (keys : List (List ℕ)) → keys ≡ insert_all bytes_eq keys (map name_of (counted 0 wire))
unfolding counted
none_counted name_of wire keys = refl

-- the wires of one more part
pub part_inserted : {X Y : Type 0} (name_of : Y → List ℕ) (wires : X → List Y) (keys now_keys more_keys : List (List ℕ)) (xs : List X) (i : ℕ) (d : X) → i < length xs →
    now_keys ≡ insert_all bytes_eq keys (map name_of (flat_map wires (take i xs))) → more_keys ≡ insert_all bytes_eq now_keys (map name_of (wires (get_or xs i d))) →
    more_keys ≡ insert_all bytes_eq keys (map name_of (flat_map wires (take (i + 1) xs)))
part_inserted name_of wires keys now_keys more_keys xs i d within so_far inserted =
    let x = get_or xs i d in
    let front = flat_map wires (take i xs) in
    inserted
    ∙ ap (λ ks. insert_all bytes_eq ks (map name_of (wires x))) so_far
    ∙ insert_both bytes_eq keys (map name_of front) (map name_of (wires x))
    ∙ ap (insert_all bytes_eq keys)
    (sym (map-append name_of front (wires x))
    ∙ ap (map name_of) (flat_map_more wires [] (take i xs) x ∙ ap (flat_map wires) (sym (take_more xs i d within))))

-- the same of names that are counted themselves
pub bits_inserted : (name_of : ℕ → List ℕ) (keys now_keys more_keys : List (List ℕ)) (n : ℕ) (name : List ℕ) →
    now_keys ≡ insert_all bytes_eq keys (counted n name_of) → more_keys ≡ insert_key bytes_eq now_keys name → name ≡ name_of n →
    more_keys ≡ insert_all bytes_eq keys (counted (n + 1) name_of)
bits_inserted name_of keys now_keys more_keys n name so_far inserted is =
    inserted
    ∙ (λ j. insert_key bytes_eq (so_far j) (is j))
    ∙ insert_more bytes_eq keys (counted n name_of) (name_of n)
    ∙ ap (insert_all bytes_eq keys) (sym (counted_more n name_of))

pub no_bits : (name_of : ℕ → List ℕ) (keys : List (List ℕ)) → keys ≡ insert_all bytes_eq keys (counted 0 name_of)
unfolding counted
no_bits name_of keys = refl

-- both sides of a row
pub row_inserted : (row : WireRow) (keys between more_keys : List (List ℕ)) (sources dests : ℕ) → sources ≡ source_bits row → dests ≡ dest_bits row →
    between ≡ insert_all bytes_eq keys (counted sources (bit_name row.source)) → more_keys ≡ insert_all bytes_eq between (counted dests (bit_name row.dest)) →
    more_keys ≡ insert_all bytes_eq keys (map wire_name (row_wires row))
row_inserted row keys between more_keys sources dests source_is dest_is first second =
    let front = counted (source_bits row) (source_bit row) in
    let back = counted (dest_bits row) (dest_bit row) in
    second
    ∙ (λ j. insert_all bytes_eq (first j) (counted (dest_is j) (bit_name row.dest)))
    ∙ ap (λ n. insert_all bytes_eq (insert_all bytes_eq keys (counted n (bit_name row.source))) (counted (dest_bits row) (bit_name row.dest))) source_is
    ∙ insert_both bytes_eq keys (counted (source_bits row) (bit_name row.source)) (counted (dest_bits row) (bit_name row.dest))
    ∙ ap (insert_all bytes_eq keys)
    (sym (map-append wire_name front back
    ∙ (λ j. map_counted wire_name (source_bits row) (source_bit row) j ++ map_counted wire_name (dest_bits row) (dest_bit row) j)))

-- rows and then BELs, all of different names
pub tile_inserted : (rows : List WireRow) (bels : List Bel) (keys between more_keys : List (List ℕ)) →
    AllPairs (λ first second. first ≢ second) (map wire_name (flat_map row_wires rows ++ flat_map bel_wires bels)) → keys ≡ [] →
    between ≡ insert_all bytes_eq keys (map wire_name (flat_map row_wires rows)) → more_keys ≡ insert_all bytes_eq between (map wire_name (flat_map bel_wires bels)) →
    more_keys ≡ map wire_name (flat_map row_wires rows ++ flat_map bel_wires bels)
tile_inserted rows bels keys between more_keys apart none first second =
    let front : List (List ℕ) = map wire_name (flat_map row_wires rows) in
    let back : List (List ℕ) = map wire_name (flat_map bel_wires bels) in
    let whole : List (List ℕ) = map wire_name (flat_map row_wires rows ++ flat_map bel_wires bels) in
    let joined : whole ≡ front ++ back = map-append wire_name (flat_map row_wires rows) (flat_map bel_wires bels) in
    second
    ∙ ap (λ ks. insert_all bytes_eq ks back) (first ∙ ap (λ ks. insert_all bytes_eq ks front) none)
    ∙ insert_both bytes_eq [] front back
    ∙ ap (insert_all bytes_eq []) (sym joined)
    ∙ all_inserted whole apart

-- the key of a pin
pub pin_key : (prefix key more pin_name : List ℕ) (names : List (List ℕ)) (pin : ℕ) → key ≡ prefix → more ≡ key ++ pin_name → slice_get names pin ≡ Some pin_name → more ≡ prefix ++ get_or names pin []
pin_key prefix key more pin_name names pin key_is more_is there =
    let named : pin_name ≡ get_or names pin [] = sym (get_or_from_slice_get names pin pin_name [] there) in
    more_is ∙ (λ j. key_is j ++ named j)
