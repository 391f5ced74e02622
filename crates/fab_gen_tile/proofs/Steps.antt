-- Steps of loops over rows, BELs and names.
use Rattle.std.proofs.Common.{◌≡◌, ◌==◌, ℕ, zero, suc, ◌+◌, ◌-◌, ◌<◌, ◌≤◌, true, false, nat_eq, sum_by, List, [], ◌∷◌, ◌++◌, length, map, take, get_or, refl, sym, ap, ◌∙◌, arith, append_assoc, slice_get, slice_range, Some}
use Rattle.std.specs.List.{flat_map, enumerate_from}
use Rattle.std.proofs.lemmas.List.{take_more, append-nil, map-append, map_push, length-take-le}
use Rattle.std.proofs.lemmas.List.Concat.{flat_map-cons}
use Rattle.std.proofs.lemmas.Grind.{flat_map-append}
use Rattle.std.proofs.lemmas.Option.{slice_get_within, get_or_from_slice_get}
use Rattle.std.proofs.lemmas.List.Sums.{sum_by-append}
use Rattle.fab_kinds.specs.Pins.{bit_count}
use Rattle.fab_model.specs.declared.tiles.Bel.{Bel}
use Rattle.fab_syntax.specs.declared.tree.Join.{Join}
use Rattle.fab_syntax.specs.Plain.{PlainJoin, plain_join, part, instance}
use Rattle.fab_select.specs.Selection.{select_bits}
use Rattle.fab_model.specs.Tiles.{PlainTile, bel_bits, tile_bits, numbered_pairs, bits_before}
use Rattle.fab_matrix.specs.fab_meaning.specs.Ports.{config_name}
use Rattle.fab_gen_tile.specs.Names.{port_join, same_join, bits_name, matrix_module_name, matrix_instance_name}
use Rattle.fab_gen_tile.specs.TileModule.{bits_join, matrix_input_names, matrix_output_names, matrix_joins, matrix_instances}
use Rattle.fab_matrix.proofs.Groups.{numbered_push}
use Rattle.fab_prim.proofs.Pins.{range_more}

pub flat_last : {X A : Type 0} (f : X → List A) (xs : List X) (x : X) → flat_map f (xs ++ x ∷ []) ≡ flat_map f xs ++ f x
flat_last f xs x =
    flat_map-append f xs (x ∷ []) ∙ ap (λ rest. flat_map f xs ++ rest) (flat_map-cons f x [] ∙ append-nil (f x))

-- the pieces of one element more
pub flat_more : {X A : Type 0} (f : X → List A) (xs : List X) (i : ℕ) (d : X) → i < length xs →
    flat_map f (take (i + 1) xs) ≡ flat_map f (take i xs) ++ f (get_or xs i d)
flat_more f xs i d within = ap (flat_map f) (take_more xs i d within) ∙ flat_last f (take i xs) (get_or xs i d)

-- one element more with its place
pub placed_more : {X : Type 0} (xs : List X) (i : ℕ) (d : X) → i < length xs →
    enumerate_from 0 (take (i + 1) xs) ≡ enumerate_from 0 (take i xs) ++ (i, get_or xs i d) ∷ []
placed_more xs i d within =
    let place : 0 + length (take i xs) ≡ i = omega (arith, length-take-le i xs (omega arith)) in
    ap (enumerate_from 0) (take_more xs i d within)
    ∙ numbered_push 0 (take i xs) (get_or xs i d)
    ∙ ap (λ n. enumerate_from 0 (take i xs) ++ (n, get_or xs i d) ∷ []) place

-- and what is made of it
pub map_placed_more : {X Y : Type 0} (f : ℕ × X → Y) (xs : List X) (i : ℕ) (d : X) → i < length xs →
    map f (enumerate_from 0 (take (i + 1) xs)) ≡ map f (enumerate_from 0 (take i xs)) ++ f (i, get_or xs i d) ∷ []
map_placed_more f xs i d within =
    ap (map f) (placed_more xs i d within) ∙ map-append f (enumerate_from 0 (take i xs)) ((i, get_or xs i d) ∷ [])

pub flat_placed_more : {X A : Type 0} (f : ℕ × X → List A) (xs : List X) (i : ℕ) (d : X) → i < length xs →
    flat_map f (enumerate_from 0 (take (i + 1) xs)) ≡ flat_map f (enumerate_from 0 (take i xs)) ++ f (i, get_or xs i d)
flat_placed_more f xs i d within =
    ap (flat_map f) (placed_more xs i d within) ∙ flat_last f (enumerate_from 0 (take i xs)) (i, get_or xs i d)

-- one name more of a list
pub named_more : {X : Type 0} (f : List ℕ → X) (names : List (List ℕ)) (i : ℕ) (name : List ℕ) → slice_get names i ≡ Some name →
    map f (take (i + 1) names) ≡ map f (take i names) ++ f name ∷ []
named_more f names i name got =
    ap (map f) (take_more names i [] (slice_get_within names i name got) ∙ ap (λ n. take i names ++ n ∷ []) (get_or_from_slice_get names i name [] got))
    ∙ map-append f (take i names) (name ∷ [])

-- what is behind others and gets one piece more
pub behind : {X : Type 0} (items front so_far more whole : List X) → items ≡ front ++ so_far → so_far ++ more ≡ whole → items ++ more ≡ front ++ whole
behind items front so_far more whole is with_more =
    ap (λ xs. xs ++ more) is ∙ append_assoc front so_far more ∙ ap (λ xs. front ++ xs) with_more

-- one pin more of a range
pub pins_more : {X : Type 0} (f : List ℕ → X) (names : List (List ℕ)) (from pin : ℕ) (name : List ℕ) (front : List X) → from ≤ pin → slice_get names pin ≡ Some name →
    (front ++ map f (slice_range names from pin)) ++ f name ∷ [] ≡ front ++ map f (slice_range names from (pin + 1))
pins_more f names from pin name front low got =
    append_assoc front (map f (slice_range names from pin)) (f name ∷ [])
    ∙ ap (λ xs. front ++ xs)
    (sym (map-append f (slice_range names from pin) (name ∷ [])) ∙ ap (map f) (sym (range_more names from pin name low got)))

-- the port of configuration bits, where there are some
pub some_bits : (low bits : ℕ) → (bits ≡ 0 → ⊥) → bits_join low bits ≡ port_join config_name (part bits_name (low + (bits - 1)) low) ∷ []
some_bits low zero none = absurd (none refl)
some_bits low (suc n) none =
    let less : n ≡ suc n - 1 = omega arith in
    ap (λ k. port_join config_name (part bits_name (low + k) low) ∷ []) less

-- the bits of the BELs before one more
pub bits_before_more : (bels : List Bel) (i : ℕ) (d : Bel) → i < length bels → bits_before bels (i + 1) ≡ bits_before bels i + bit_count (get_or bels i d).kind
bits_before_more bels i d within =
    ap (sum_by (λ b. bit_count b.kind)) (take_more bels i d within)
    ∙ sum_by-append (λ b. bit_count b.kind) (take i bels) (get_or bels i d ∷ [])
    ∙ omega arith

-- the instance of the switch matrix, where it has outputs
pub some_matrix : (tile : PlainTile) (outputs : List (List ℕ)) (joins : List PlainJoin) → joins ≡ map same_join outputs → (length joins == 0) ≡ false →
    matrix_instances tile outputs ≡ instance (matrix_module_name tile) matrix_instance_name (matrix_joins tile) ∷ []
some_matrix tile [] joins same none = let empty : (length joins == 0) ≡ true = ap (λ j. length j == 0) same in absurd cc
some_matrix tile (output ∷ outputs) joins same none = refl

-- the joins of the switch matrix, made one behind the other
pub joins_made : (tile : PlainTile) (low bits : ℕ) (inputs with_bits outputs : List PlainJoin) → inputs ≡ map same_join (matrix_input_names tile) → low ≡ bel_bits tile →
    bits ≡ tile_bits tile - low → with_bits ≡ inputs ++ bits_join low bits → outputs ≡ map same_join (matrix_output_names tile) → with_bits ++ outputs ≡ matrix_joins tile
joins_made tile low bits inputs with_bits outputs are_inputs is_low is_bits are_bits are_outputs =
    let selects : bits ≡ select_bits nat_eq (numbered_pairs tile) = omega (arith, is_bits, is_low) in
    (λ j. are_bits j ++ are_outputs j)
    ∙ (λ j. (are_inputs j ++ bits_join (is_low j) (selects j)) ++ map same_join (matrix_output_names tile))
    ∙ append_assoc (map same_join (matrix_input_names tile)) (bits_join (bel_bits tile) (select_bits nat_eq (numbered_pairs tile))) (map same_join (matrix_output_names tile))

-- one join more, behind others
pub join_more : (joins : List Join) (join : Join) (front more : List PlainJoin) (is : PlainJoin) → map plain_join joins ≡ front ++ more → plain_join join ≡ is →
    map plain_join (joins ++ join ∷ []) ≡ front ++ (more ++ is ∷ [])
join_more joins join front more is so_far same =
    map_push plain_join joins join ∙ (λ j. so_far j ++ same j ∷ []) ∙ append_assoc front more (is ∷ [])
