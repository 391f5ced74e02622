-- Names are read as what their parts say.
use Rattle.std.proofs.Common.{◌≡◌, ℕ, ◌+◌, ◌-◌, ◌≤◌, ◌&&◌, Bool, true, false, cond, List, [], ◌∷◌, ◌++◌, length, get_or, codes, All, Option, Some, None, nat_eq, nat_le, bytes_eq, slice_get, refl, sym, ap, ◌∙◌, subst, arith, append_assoc, append-nil, eqb-true}
use Rattle.std.specs.List.{list_any}
use Rattle.std.specs.Option.{option_and_then}
use Rattle.std.proofs.lemmas.Bool.Decides.{nat_tests}
use Rattle.std.proofs.lemmas.List.Quantifiers.{position-Some}
use Rattle.std.proofs.lemmas.Option.{slice_get_within, get_or_from_slice_get}
use Rattle.std.proofs.lemmas.Slice.Eq.{bytes_eq-Decides}
use Rattle.fab_model.specs.declared.tiles.Bel.{Bel}
use Rattle.fab_model.specs.Tiles.{PlainTile, matrix_names}
use Rattle.fab_model.specs.Grid.{PlainFabric, tile_at}
use Rattle.fab_model.specs.Drive.{matrix_inputs}
use Rattle.fab_model.proofs.Steps.{then_gives}
use Rattle.fab_fabric.specs.Fabric.{IsFabric, AreTiles}
use Rattle.fab_fabric.specs.Names.{place_name}
use Rattle.fab_fabric.specs.declared.wire.Site.{Site}
use Rattle.fab_legal.proofs.Pins.{is_tile_at, tile_type}
use Rattle.fab_texts.specs.Places.{PlaceAt, place_at, letter_of}
use Rattle.fab_texts.proofs.SiteLaws.{place_takes}
use Rattle.fab_fasm.specs.Parts.{parted, TwoParts}
use Rattle.fab_fasm.proofs.PartsFound.{parted_found}
use Rattle.fab_use_defs.specs.fab_gen_tile_Words.{IsNamed}
use Rattle.fab_features.specs.Said.{said_of, said_in, first_of, field_in, field_of, pair_in, pair_of, number_in, TwoNumbers, bel_field, choice}
use Rattle.fab_features.specs.Naming.{HasPrefixes}
use Rattle.fab_features.specs.Design.{field_name, pair_name}
use Rattle.fab_features.specs.NameParts.{Names, of_field, of_pair, NamesAreRead}
use Rattle.fab_features.specs.declared.said.Said.{Said}
use Rattle.fab_features.specs.declared.said.Said.TheVariants as said
use Rattle.fab_features.proofs.DesignLines.{pair_of_input}
use Rattle.fab_features.proofs.Listed.{named}
use Rattle.fab_features.proofs.SaidNames.{field_said, pair_said}
use Rattle.fab_features.proofs.Tables.{few_bels}

-- ---- what is read has these parts

same_said : (a b : Said) → Some a ≡ Some b → a ≡ b
same_said a b e = cc

never_said : {X : Type 0} (s : Said) → None ≡ Some s → X
never_said s e = absurd cc

letter_is : (bytes : List ℕ) (n : ℕ) → letter_of bytes ≡ Some n → bytes ≡ (65 + n) ∷ []
letter_is [] n e = absurd cc
letter_is (byte ∷ []) n e = by (nat_le 65 byte && nat_le byte 90) refl e
  where
    number_is : (a b : ℕ) → Some a ≡ Some b → a ≡ b
    number_is a b e = cc

    by : (test : Bool) → (nat_le 65 byte && nat_le byte 90) ≡ test → cond test (Some (byte - 65)) None ≡ Some n → byte ∷ [] ≡ (65 + n) ∷ []
    by true range e =
        let low : 65 ≤ byte = grind (arith, nat_tests) in
        let same = number_is (byte - 65) n e in
        let back : byte ≡ 65 + n = omega (arith, low, same) in
        ap (λ (b : ℕ). b ∷ []) back
    by false range e = absurd cc
letter_is (byte ∷ next ∷ more) n e = absurd cc

name_is : (tile : PlainTile) (name : List ℕ) (number : ℕ) → number_in tile name ≡ Some number → name ≡ get_or (matrix_names tile) number []
name_is tile name number e =
    let found = position-Some (bytes_eq name) (matrix_names tile) number [] e in
    (bytes_eq-Decides name (get_or (matrix_names tile) number [])).0 found.1

-- a place and two words with dots between them
abbrev dotted : (x y : ℕ) (first second : List ℕ) → List ℕ
dotted x y first second = place_name x y ++ codes "." ++ first ++ codes "." ++ second

dots : (place first second : List ℕ) → place ++ codes "." ++ first ++ codes "." ++ second ≡ place ++ 46 ∷ (first ++ 46 ∷ second)
dots place first second =
    append_assoc (place ++ codes "." ++ first) (codes ".") second
    ∙ append_assoc (place ++ codes ".") first (codes "." ++ second)
    ∙ append_assoc place (codes ".") (first ++ (codes "." ++ second))

field_parts : (fabric : PlainFabric) (tile : PlainTile) (x y : ℕ) (first second : List ℕ) (s : Said) → tile_at fabric x y ≡ Some tile → field_in tile x y first second ≡ Some s
    → Names fabric (dotted x y first second) s
field_parts fabric tile x y first second s is e =
    let bel = then_gives (λ n. option_and_then (λ (found : Bel). option_and_then (λ (field : TwoNumbers). Some (said.OfBel (bel_field x y n field.0 field.1))) (field_of found.kind second)) (slice_get tile.bels n))
    (letter_of first) s e in
    let found = then_gives (λ (found : Bel). option_and_then (λ (field : TwoNumbers). Some (said.OfBel (bel_field x y bel.0 field.0 field.1))) (field_of found.kind second)) (slice_get tile.bels bel.0) s bel.2 in
    let field = then_gives (λ (field : TwoNumbers). Some (said.OfBel (bel_field x y bel.0 field.0 field.1))) (field_of found.0.kind second) s found.2 in
    let site : Site = record { x = x; y = y; bel = bel.0 } in
    let here : Names fabric (field_name site second) (said.OfBel (bel_field x y bel.0 field.0.0 field.0.1)) = of_field site second is found.1 field.1 in
    let told = subst (Names fabric (field_name site second)) (same_said (said.OfBel (bel_field x y bel.0 field.0.0 field.0.1)) s field.2) here in
    subst (λ (w : List ℕ). Names fabric (dotted x y w second) s) (sym (letter_is first bel.0 bel.1)) told

chosen_pair : (tile : PlainTile) (x y input output : ℕ) (s : Said) (b : Bool) → cond b (Some (said.OfPair (choice x y output input))) None ≡ Some s → (b ≡ true) × (said.OfPair (choice x y output input) ≡ s)
chosen_pair tile x y input output s true e = (refl, same_said (said.OfPair (choice x y output input)) s e)
chosen_pair tile x y input output s false e = never_said s e

pair_parts : (fabric : PlainFabric) (tile : PlainTile) (x y : ℕ) (first second : List ℕ) (s : Said) → tile_at fabric x y ≡ Some tile → pair_in tile x y first second ≡ Some s
    → Names fabric (dotted x y first second) s
pair_parts fabric tile x y first second s is e =
    let from = then_gives (λ n. option_and_then (λ m. pair_of tile x y n m) (number_in tile second)) (number_in tile first) s e in
    let to = then_gives (λ m. pair_of tile x y from.0 m) (number_in tile second) s from.2 in
    let pair = chosen_pair tile x y from.0 to.0 s (list_any (λ other. nat_eq other from.0) (matrix_inputs tile to.0)) to.2 in
    let here : Names fabric (pair_name fabric x y from.0 to.0) (said.OfPair (choice x y to.0 from.0)) = of_pair x y from.0 to.0 is pair.0 in
    let told = subst (Names fabric (pair_name fabric x y from.0 to.0)) pair.1 here in
    let names = named fabric x y from.0 to.0 tile is in
    let words : dotted x y (get_or (matrix_names tile) from.0 []) (get_or (matrix_names tile) to.0 []) ≡ dotted x y first second =
    ap (λ (w : List ℕ). dotted x y w (get_or (matrix_names tile) to.0 [])) (sym (name_is tile first from.0 from.1)) ∙ ap (λ (w : List ℕ). dotted x y first w) (sym (name_is tile second to.0 to.1)) in
    subst (λ (n : List ℕ). Names fabric n s) (names ∙ words) told

words_parts : (fabric : PlainFabric) (tile : PlainTile) (x y : ℕ) (first second : List ℕ) (s : Said) → tile_at fabric x y ≡ Some tile → said_in tile x y first second ≡ Some s
    → Names fabric (dotted x y first second) s
words_parts fabric tile x y first second s is e = either (field_in tile x y first second) refl e
  where
    either : (o : Option Said) → field_in tile x y first second ≡ o → first_of o (pair_in tile x y first second) ≡ Some s → Names fabric (dotted x y first second) s
    either None field e = pair_parts fabric tile x y first second s is e
    either (Some found) field e = field_parts fabric tile x y first second s is (field ∙ e)

whole : (b : Bool) (o : Option Said) (s : Said) → cond b o None ≡ Some s → (b ≡ true) × (o ≡ Some s)
whole true o s e = (refl, e)
whole false o s e = never_said s e

nothing_left : (rest : List ℕ) → nat_eq (length rest) 0 ≡ true → rest ≡ []
nothing_left [] none = refl
nothing_left (byte ∷ rest) none = absurd (omega (arith, eqb-true (length (byte ∷ rest)) 0 none))

parts_found : (fabric : PlainFabric) (name : List ℕ) (s : Said) → said_of fabric name ≡ Some s → Names fabric name s
unfolding said_of
parts_found fabric name s e =
    let last : TwoParts → PlaceAt → PlainTile → Option Said = λ words place tile. cond (nat_eq (length place.rest) 0) (said_in tile place.x place.y words.0 words.1) None in
    let third : TwoParts → PlaceAt → Option Said = λ words place. option_and_then (last words place) (tile_at fabric place.x place.y) in
    let second : TwoParts → TwoParts → Option Said = λ front words. option_and_then (third words) (place_at front.0) in
    let front = then_gives (λ front. option_and_then (second front) (parted 46 front.1)) (parted 46 name) s e in
    let words = then_gives (second front.0) (parted 46 front.0.1) s front.2 in
    let place = then_gives (third words.0) (place_at front.0.0) s words.2 in
    let tile = then_gives (last words.0 place.0) (tile_at fabric place.0.x place.0.y) s place.2 in
    let end = whole (nat_eq (length place.0.rest) 0) (said_in tile.0 place.0.x place.0.y words.0.0 words.0.1) s tile.2 in
    let reads = place_takes front.0.0 place.0 place.1 in
    let place_is : front.0.0 ≡ place_name place.0.x place.0.y =
    reads.text ∙ ap (λ (r : List ℕ). place_name place.0.x place.0.y ++ r) (nothing_left place.0.rest end.0) ∙ append-nil (place_name place.0.x place.0.y) in
    let cut : name ≡ dotted place.0.x place.0.y words.0.0 words.0.1 =
    (parted_found 46 name front.0 front.1).is
    ∙ ap (λ (t : List ℕ). front.0.0 ++ 46 ∷ t) (parted_found 46 front.0.1 words.0 words.1).is
    ∙ ap (λ (p : List ℕ). p ++ 46 ∷ (words.0.0 ++ 46 ∷ words.0.1)) place_is
    ∙ sym (dots (place_name place.0.x place.0.y) words.0.0 words.0.1) in
    subst (λ (n : List ℕ). Names fabric n s) (sym cut) (words_parts fabric tile.0 place.0.x place.0.y words.0.0 words.0.1 s tile.1 end.1)

-- ---- these parts are read

of_type : (P : PlainTile → Type 0) (fabric : PlainFabric) (x y : ℕ) (tile : PlainTile) → All P fabric.types → tile_at fabric x y ≡ Some tile → P tile
of_type P fabric x y tile all is =
    let number = tile_type fabric x y tile is in
    subst P (get_or_from_slice_get fabric.types number.0 tile tile number.1) (all number.0 tile (slice_get_within fabric.types number.0 tile number.1))

parts_read : (fabric : PlainFabric) → IsFabric fabric → AreTiles fabric → All IsNamed fabric.types → All HasPrefixes fabric.types → (name : List ℕ) (what : Said) → Names fabric name what
    → said_of fabric name ≡ Some what
parts_read fabric is tiles free prefixed name what (of_field site word {tile = tile} {found = found} {field = field} tile_is bel_is field_is) =
    let inside = slice_get_within tile.bels site.bel found bel_is in
    field_said fabric site tile found word field is tile_is (omega (arith, inside, few_bels fabric site.x site.y tile is tile_is)) bel_is field_is
parts_read fabric is tiles free prefixed name what (of_pair x y input output {tile = tile} tile_is paired) =
    let pair = pair_of_input tile.pairs output input paired in
    pair_said fabric x y output input tile pair.0 is tile_is (is_tile_at fabric x y tile tile_is tiles) (of_type IsNamed fabric x y tile free tile_is) (of_type HasPrefixes fabric x y tile prefixed tile_is)
    pair.1 pair.2 pair.3 paired

pub names_are_read : NamesAreRead
names_are_read fabric is tiles free prefixed name what = ((λ e. parts_found fabric name what e), λ parts. parts_read fabric is tiles free prefixed name what parts)
