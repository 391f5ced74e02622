-- What a name says stands on the fabric.
use Rattle.std.proofs.Common.{◌≡◌, ℕ, ◌+◌, ◌<◌, ◌≤◌, Bool, true, false, cond, List, [], length, codes, Option, Some, None, bytes_eq, nat_eq, slice_get, sym, refl, ◌∙◌, subst, arith}
use Rattle.std.specs.List.{list_any}
use Rattle.std.specs.Option.{option_and_then}
use Rattle.std.proofs.lemmas.List.Quantifiers.{position-Some}
use Rattle.fab_kinds.specs.declared.kind.Kind.{Kind}
use Rattle.fab_kinds.specs.declared.kind.Kind.TheVariants as kinds
use Rattle.fab_kinds.specs.Pins.{bit_count}
use Rattle.fab_model.specs.declared.tiles.Bel.{Bel}
use Rattle.fab_model.specs.Tiles.{PlainTile, matrix_names}
use Rattle.fab_model.specs.Grid.{PlainFabric, tile_at}
use Rattle.fab_model.specs.Drive.{matrix_inputs}
use Rattle.fab_model.proofs.Steps.{then_gives}
use Rattle.fab_fasm.specs.Parts.{parted, TwoParts}
use Rattle.fab_texts.specs.Places.{PlaceAt, place_at, letter_of}
use Rattle.fab_features.specs.Said.{said_of, said_in, first_of, field_in, pair_in, pair_of, number_in, field_of, TwoNumbers, bel_field, choice}
use Rattle.fab_features.specs.declared.said.BelField.{BelField}
use Rattle.fab_features.specs.declared.said.Choice.{Choice}
use Rattle.fab_features.specs.declared.said.Said.{Said}
use Rattle.fab_features.specs.declared.said.Said.TheVariants as said

same_said : (a b : Said) → Some a ≡ Some b → a ≡ b
same_said a b e = cc

never_said : {X : Type 0} (s : Said) → None ≡ Some s → X
never_said s e = absurd cc

same_field : (a b : BelField) → said.OfBel a ≡ said.OfBel b → a ≡ b
same_field a b e = cc

same_choice : (a b : Choice) → said.OfPair a ≡ said.OfPair b → a ≡ b
same_choice a b e = cc

bel_no_pair : {X : Type 0} (a : BelField) (b : Choice) → said.OfBel a ≡ said.OfPair b → X
bel_no_pair a b e = absurd cc

pair_no_bel : {X : Type 0} (a : BelField) (b : Choice) → said.OfPair b ≡ said.OfBel a → X
pair_no_bel a b e = absurd cc

-- a field and the BEL that has it
pub record HasField (fabric : PlainFabric) (f : BelField) : Type 0 where
  pub tile : PlainTile
  pub found : Bel
  pub tile_is : tile_at fabric f.x f.y ≡ Some tile
  pub bel_is : slice_get tile.bels f.bel ≡ Some found
  pub inside : f.first + f.width ≤ bit_count found.kind

pub record HasChoice (fabric : PlainFabric) (c : Choice) : Type 0 where
  pub tile : PlainTile
  pub tile_is : tile_at fabric c.x c.y ≡ Some tile
  pub output : c.output < length (matrix_names tile)
  pub paired : list_any (λ other. nat_eq other c.input) (matrix_inputs tile c.output) ≡ true

-- what is said stands on the fabric
abbrev IsThere : PlainFabric → Said → Type 0
IsThere fabric (said.OfBel f) = HasField fabric f
IsThere fabric (said.OfPair c) = HasChoice fabric c

FitsKind : ℕ → Option TwoNumbers → Type 0
FitsKind bits None = Unit {0}
FitsKind bits (Some field) = field.0 + field.1 ≤ bits

fits_next : (bits : ℕ) (test : Bool) (a b : Option TwoNumbers) → FitsKind bits a → FitsKind bits b → FitsKind bits (cond test a b)
fits_next bits true a b first second = first
fits_next bits false a b first second = second

fields_fit : (kind : Kind) (word : List ℕ) → FitsKind (bit_count kind) (field_of kind word)
unfolding FitsKind
fields_fit kinds.Lut4c word =
    fits_next 19 (bytes_eq word (codes "INIT")) _ _ (omega arith)
    (fits_next 19 (bytes_eq word (codes "FF")) _ _ (omega arith)
    (fits_next 19 (bytes_eq word (codes "IOmux")) _ _ (omega arith) (fits_next 19 (bytes_eq word (codes "SET_NORESET")) _ _ (omega arith) tt)))
fields_fit kinds.Io word = tt
fields_fit kinds.Mux8 word = fits_next 2 (bytes_eq word (codes "c0")) _ _ (omega arith) (fits_next 2 (bytes_eq word (codes "c1")) _ _ (omega arith) tt)

field_fits : (kind : Kind) (word : List ℕ) (field : TwoNumbers) → field_of kind word ≡ Some field → field.0 + field.1 ≤ bit_count kind
unfolding FitsKind
field_fits kind word field is = subst (FitsKind (bit_count kind)) is (fields_fit kind word)

field_there : (fabric : PlainFabric) (tile : PlainTile) (x y : ℕ) (first second : List ℕ) (s : Said) → tile_at fabric x y ≡ Some tile → field_in tile x y first second ≡ Some s → IsThere fabric s
field_there fabric tile x y first second s is e =
    let bel = then_gives (λ n. option_and_then (λ (found : Bel). option_and_then (λ (field : TwoNumbers). Some (said.OfBel (bel_field x y n field.0 field.1))) (field_of found.kind second)) (slice_get tile.bels n))
    (letter_of first) s e in
    let found = then_gives (λ (found : Bel). option_and_then (λ (field : TwoNumbers). Some (said.OfBel (bel_field x y bel.0 field.0 field.1))) (field_of found.kind second)) (slice_get tile.bels bel.0) s bel.2 in
    let field = then_gives (λ (field : TwoNumbers). Some (said.OfBel (bel_field x y bel.0 field.0 field.1))) (field_of found.0.kind second) s found.2 in
    let has : HasField fabric (bel_field x y bel.0 field.0.0 field.0.1) =
    record { tile = tile; found = found.0; tile_is = is; bel_is = found.1; inside = field_fits found.0.kind second field.0 field.1 } in
    subst (IsThere fabric) (same_said (said.OfBel (bel_field x y bel.0 field.0.0 field.0.1)) s field.2) has

chosen_pair : (tile : PlainTile) (x y input output : ℕ) (s : Said) (b : Bool) → cond b (Some (said.OfPair (choice x y output input))) None ≡ Some s → (b ≡ true) × (said.OfPair (choice x y output input) ≡ s)
chosen_pair tile x y input output s true e = (refl, same_said (said.OfPair (choice x y output input)) s e)
chosen_pair tile x y input output s false e = never_said s e

pair_there : (fabric : PlainFabric) (tile : PlainTile) (x y : ℕ) (first second : List ℕ) (s : Said) → tile_at fabric x y ≡ Some tile → pair_in tile x y first second ≡ Some s → IsThere fabric s
pair_there fabric tile x y first second s is e =
    let from = then_gives (λ n. option_and_then (λ m. pair_of tile x y n m) (number_in tile second)) (number_in tile first) s e in
    let to = then_gives (λ m. pair_of tile x y from.0 m) (number_in tile second) s from.2 in
    let pair = chosen_pair tile x y from.0 to.0 s (list_any (λ other. nat_eq other from.0) (matrix_inputs tile to.0)) to.2 in
    let has : HasChoice fabric (choice x y to.0 from.0) =
    record { tile = tile; tile_is = is; output = (position-Some (bytes_eq second) (matrix_names tile) to.0 [] to.1).0; paired = pair.0 } in
    subst (IsThere fabric) pair.1 has

in_there : (fabric : PlainFabric) (tile : PlainTile) (x y : ℕ) (first second : List ℕ) (s : Said) → tile_at fabric x y ≡ Some tile → said_in tile x y first second ≡ Some s → IsThere fabric s
in_there fabric tile x y first second s is e = either (field_in tile x y first second) refl e
  where
    either : (o : Option Said) → field_in tile x y first second ≡ o → first_of o (pair_in tile x y first second) ≡ Some s → IsThere fabric s
    either None field e = pair_there fabric tile x y first second s is e
    either (Some found) field e = field_there fabric tile x y first second s is (field ∙ e)

whole : (b : Bool) (o : Option Said) (s : Said) → cond b o None ≡ Some s → o ≡ Some s
whole true o s e = e
whole false o s e = never_said s e

there : (fabric : PlainFabric) (name : List ℕ) (s : Said) → said_of fabric name ≡ Some s → IsThere fabric s
unfolding said_of
there fabric name s e =
    let last : TwoParts → PlaceAt → PlainTile → Option Said = λ words place tile. cond (nat_eq (length place.rest) 0) (said_in tile place.x place.y words.0 words.1) None in
    let third : TwoParts → PlaceAt → Option Said = λ words place. option_and_then (last words place) (tile_at fabric place.x place.y) in
    let second : TwoParts → TwoParts → Option Said = λ front words. option_and_then (third words) (place_at front.0) in
    let front = then_gives (λ front. option_and_then (second front) (parted 46 front.1)) (parted 46 name) s e in
    let words = then_gives (second front.0) (parted 46 front.0.1) s front.2 in
    let place = then_gives (third words.0) (place_at front.0.0) s words.2 in
    let tile = then_gives (last words.0 place.0) (tile_at fabric place.0.x place.0.y) s place.2 in
    in_there fabric tile.0 place.0.x place.0.y words.0.0 words.0.1 s tile.1 (whole (nat_eq (length place.0.rest) 0) (said_in tile.0 place.0.x place.0.y words.0.0 words.0.1) s tile.2)

pub has_field : (fabric : PlainFabric) (name : List ℕ) (f : BelField) → said_of fabric name ≡ Some (said.OfBel f) → HasField fabric f
has_field fabric name f e = there fabric name (said.OfBel f) e

pub has_choice : (fabric : PlainFabric) (name : List ℕ) (c : Choice) → said_of fabric name ≡ Some (said.OfPair c) → HasChoice fabric c
has_choice fabric name c e = there fabric name (said.OfPair c) e

-- a name says one thing
pub one_field : (fabric : PlainFabric) (name : List ℕ) (a b : BelField) → said_of fabric name ≡ Some (said.OfBel a) → said_of fabric name ≡ Some (said.OfBel b) → a ≡ b
one_field fabric name a b first second = same_field a b (same_said (said.OfBel a) (said.OfBel b) (sym first ∙ second))

pub one_choice : (fabric : PlainFabric) (name : List ℕ) (a b : Choice) → said_of fabric name ≡ Some (said.OfPair a) → said_of fabric name ≡ Some (said.OfPair b) → a ≡ b
one_choice fabric name a b first second = same_choice a b (same_said (said.OfPair a) (said.OfPair b) (sym first ∙ second))

pub no_both : {X : Type 0} (fabric : PlainFabric) (name : List ℕ) (a : BelField) (b : Choice) → said_of fabric name ≡ Some (said.OfBel a) → said_of fabric name ≡ Some (said.OfPair b) → X
no_both fabric name a b first second = bel_no_pair a b (same_said (said.OfBel a) (said.OfPair b) (sym first ∙ second))
