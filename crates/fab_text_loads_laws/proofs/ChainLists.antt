-- The bits of tiles as lists: what each moves on by a tick, what goes out behind it, and the whole chain.
use Rattle.std.proofs.Common.{◌≡◌, ℕ, zero, suc, ◌<◌, Bool, List, [], ◌∷◌, ◌++◌, length, map, refl, ap, ap₂, ◌∙◌, arith, All}
use Rattle.std.specs.List.{flat_map}
use Rattle.std.proofs.lemmas.List.{map-append}
use Rattle.std.proofs.lemmas.List.Elements.{All-nil, All-cons, All-head, All-tail}
use Rattle.fab_drives_laws.specs.fab_model_Tiles.{counted, tile_bits}
use Rattle.fab_drives_laws.specs.fab_model_Grid.{PlainFabric}
use Rattle.fab_drives_laws.specs.fab_model_Drive.{PlainBits}
use Rattle.fab_drives_laws.specs.fab_fabric_text_defs_Places.{PlacedTile, placed_tiles}
use Rattle.fab_loading_laws.specs.Chain.{shifted, chain_out, chain_bits}
use Rattle.fab_loading_laws.specs.fab_frames_Positions.{bit_in, bit_place, tile_chain}
use Rattle.fab_drives_laws.proofs.Lists.{all_of}

-- ---- counted bits

pub counted_same : {X : Type 0} (n : ℕ) (f g : ℕ → X) → ((i : ℕ) → i < n → f i ≡ g i) → counted n f ≡ counted n g
unfolding counted
counted_same zero f g each = refl
counted_same (suc n) f g each =
    let rest = counted_same n (λ i. f (suc i)) (λ i. g (suc i)) (λ i few. each (suc i) (omega (arith, few))) in
    ap₂ (λ first others. first ∷ others) (each 0 (omega arith)) rest

pub counted_apart : {X : Type 0} (n : ℕ) (f g : ℕ → X) → counted n f ≡ counted n g → (i : ℕ) → i < n → f i ≡ g i
unfolding counted
counted_apart zero f g same i few = absurd (omega (arith, few))
counted_apart (suc n) f g same zero few =
    let both : f 0 ∷ counted n (λ i. f (suc i)) ≡ g 0 ∷ counted n (λ i. g (suc i)) = same in cc
counted_apart (suc n) f g same (suc i) few =
    let both : f 0 ∷ counted n (λ i. f (suc i)) ≡ g 0 ∷ counted n (λ i. g (suc i)) = same in
    let rest : counted n (λ i. f (suc i)) ≡ counted n (λ i. g (suc i)) = cc in
    counted_apart n (λ i. f (suc i)) (λ i. g (suc i)) rest i (omega (arith, few))

-- a bit in front of those at numbers
abbrev pub behind : Bool → (ℕ → Bool) → ℕ → Bool
behind comes f zero = comes
behind comes f (suc i) = f i

first_in_front : (f : ℕ → Bool) (i : ℕ) → f i ≡ behind (f 0) (λ i. f (suc i)) i
first_in_front f zero = refl
first_in_front f (suc i) = refl

-- each bit moves on by one
pub shifted_counted : (n : ℕ) (f : ℕ → Bool) (comes : Bool) → counted n (behind comes f) ≡ shifted (counted n f) comes
unfolding counted
shifted_counted zero f comes = refl
shifted_counted (suc n) f comes =
    ap (λ rest. comes ∷ rest) (counted_same n f (behind (f 0) (λ i. f (suc i))) (λ i few. first_in_front f i) ∙ shifted_counted n (λ i. f (suc i)) (f 0))

-- the last one goes out
pub out_of_counted : (n : ℕ) (f : ℕ → Bool) (comes : Bool) → chain_out comes (counted (suc n) f) ≡ f n
unfolding counted
out_of_counted zero f comes = refl
out_of_counted (suc n) f comes = out_of_counted n (λ i. f (suc i)) (f 0)

pub out_of_none : (n : ℕ) (f : ℕ → Bool) (comes : Bool) → n ≡ 0 → chain_out comes (counted n f) ≡ comes
unfolding counted
out_of_none zero f comes none = refl
out_of_none (suc n) f comes none = absurd (omega (arith, none))

-- ---- the bits of tiles

abbrev pub tile_values : PlainBits → PlacedTile → List Bool
tile_values bits placed = counted (tile_bits placed.tile) (bits placed.x placed.y)

abbrev pub all_values : PlainFabric → PlainBits → List Bool
all_values fabric bits = flat_map (tile_values bits) (placed_tiles fabric)

mapped_flat : {X Y Z : Type 0} (h : Y → Z) (f : X → List Y) (xs : List X) → map h (flat_map f xs) ≡ flat_map (λ x. map h (f x)) xs
mapped_flat h f [] = refl
mapped_flat h f (x ∷ xs) = map-append h (f x) (flat_map f xs) ∙ ap (λ rest. map h (f x) ++ rest) (mapped_flat h f xs)

mapped_counted : {X Y : Type 0} (h : X → Y) (n : ℕ) (f : ℕ → X) → map h (counted n f) ≡ counted n (λ i. h (f i))
unfolding counted
mapped_counted h zero f = refl
mapped_counted h (suc n) f = ap (λ rest. h (f 0) ∷ rest) (mapped_counted h n (λ i. f (suc i)))

pub flat_same : {X Y : Type 0} (f g : X → List Y) (xs : List X) → All (λ x. f x ≡ g x) xs → flat_map f xs ≡ flat_map g xs
flat_same f g [] each = refl
flat_same {X} f g (x ∷ xs) each =
    ap₂ (λ front back. front ++ back) (All-head (λ (x : X). f x ≡ g x) x xs each) (flat_same f g xs (All-tail (λ (x : X). f x ≡ g x) x xs each))

-- these are the bits of the chain by position
pub values_are : (fabric : PlainFabric) (bits : PlainBits) → chain_bits fabric bits ≡ all_values fabric bits
values_are fabric bits =
    mapped_flat (bit_in bits) tile_chain (placed_tiles fabric)
    ∙ flat_same (λ placed. map (bit_in bits) (tile_chain placed)) (tile_values bits) (placed_tiles fabric)
    (all_of (λ (placed : PlacedTile). map (bit_in bits) (tile_chain placed) ≡ tile_values bits placed) (placed_tiles fabric)
    (λ placed. mapped_counted (bit_in bits) (tile_bits placed.tile) (bit_place placed.x placed.y)))

-- lists of the same length stand apart in the same way
fronts_same : {X : Type 0} (a b c d : List X) → length a ≡ length b → a ++ c ≡ b ++ d → (a ≡ b) × (c ≡ d)
fronts_same [] [] c d long same = (refl, same)
fronts_same [] (y ∷ b) c d long same = absurd (omega (arith, long))
fronts_same (x ∷ a) [] c d long same = absurd (omega (arith, long))
fronts_same (x ∷ a) (y ∷ b) c d long same =
    let first : x ≡ y = cc in
    let rest : a ++ c ≡ b ++ d = cc in
    let fewer : length a ≡ length b = omega (arith, long) in
    let behind = fronts_same a b c d fewer rest in
    (ap₂ (λ first rest. first ∷ rest) first behind.0, behind.1)

length_of_counted : {X : Type 0} (n : ℕ) (f g : ℕ → X) → length (counted n f) ≡ length (counted n g)
unfolding counted
length_of_counted zero f g = refl
length_of_counted (suc n) f g = ap suc (length_of_counted n (λ i. f (suc i)) (λ i. g (suc i)))

parts_same : (bits others : PlainBits) (tiles : List PlacedTile) → flat_map (tile_values bits) tiles ≡ flat_map (tile_values others) tiles →
    All (λ placed. tile_values bits placed ≡ tile_values others placed) tiles
parts_same bits others [] same = All-nil (λ placed. tile_values bits placed ≡ tile_values others placed)
parts_same bits others (placed ∷ tiles) same =
    let parts =
    fronts_same (tile_values bits placed) (tile_values others placed) (flat_map (tile_values bits) tiles) (flat_map (tile_values others) tiles)
    (length_of_counted (tile_bits placed.tile) (bits placed.x placed.y) (others placed.x placed.y)) same in
    All-cons (λ placed. tile_values bits placed ≡ tile_values others placed) placed tiles parts.0 (parts_same bits others tiles parts.1)

-- where the whole chain is the same, so is each tile
pub tiles_same : (fabric : PlainFabric) (bits others : PlainBits) → all_values fabric bits ≡ all_values fabric others →
    All (λ placed. tile_values bits placed ≡ tile_values others placed) (placed_tiles fabric)
tiles_same fabric bits others = parts_same bits others (placed_tiles fabric)
