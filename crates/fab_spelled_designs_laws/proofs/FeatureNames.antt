-- Names joined by dots are names of features.
use Rattle.std.proofs.Common.{◌≡◌, ℕ, ◌+◌, ◌<◌, ◌==◌, Bool, true, false, All, List, [], ◌∷◌, ◌++◌, decimal, refl, ap, ◌∙◌, append_assoc, arith}
use Rattle.std.specs.List.{list_all, slice_split}
use Rattle.std.proofs.lemmas.Bool.{and_from, and_parts}
use Rattle.std.proofs.lemmas.Bool.Decides.{nat_tests}
use Rattle.std.proofs.lemmas.List.Elements.{All-cons, All-nil}
use Rattle.std.proofs.lemmas.List.Splits.{slice_split_at, slice_split_none}
use Rattle.fab_lines.specs.Names.{begins_name, is_identifier, is_of_name}
use Rattle.fab_model.specs.Grid.{PlainFabric}
use Rattle.fab_fabric.specs.Names.{name_at, place_name, site_name}
use Rattle.fab_fabric.specs.declared.wire.Site.{Site}
use Rattle.fab_fasm.specs.Parts.{is_feature}
use Rattle.fab_features.specs.Design.{field_name, pair_name}
use Rattle.fab_spelled_fabrics_laws.proofs.Words.{decimal_named}
use Rattle.fab_texts.proofs.PrintedRows.{all_append}

abbrev is_dot : ℕ → Bool
is_dot byte = byte == 46

no_dot : (byte : ℕ) → is_of_name byte ≡ true → is_dot byte ≡ false
no_dot byte is = grind (arith, nat_tests)

all_undotted : (name : List ℕ) → list_all is_of_name name ≡ true → All (λ byte. is_dot byte ≡ false) name
all_undotted [] all = All-nil (λ byte. is_dot byte ≡ false)
all_undotted (byte ∷ name) all =
    let parts = and_parts (is_of_name byte) (list_all is_of_name name) all in
    All-cons (λ byte. is_dot byte ≡ false) byte name (no_dot byte parts.0) (all_undotted name parts.1)

undotted : (name : List ℕ) → is_identifier name ≡ true → All (λ byte. is_dot byte ≡ false) name
undotted [] is = All-nil (λ byte. is_dot byte ≡ false)
undotted (byte ∷ name) is = all_undotted (byte ∷ name) (and_parts (begins_name byte) (list_all is_of_name (byte ∷ name)) is).1

last_name : (name : List ℕ) → is_identifier name ≡ true → is_feature name ≡ true
last_name name is = ap (list_all is_identifier) (slice_split_none is_dot name (undotted name is)) ∙ and_from (is_identifier name) true is refl

front_name : (name rest : List ℕ) → is_identifier name ≡ true → is_feature rest ≡ true → is_feature (name ++ 46 ∷ rest) ≡ true
front_name name rest is more =
    ap (list_all is_identifier) (slice_split_at is_dot name 46 rest (undotted name is) refl) ∙ and_from (is_identifier name) (list_all is_identifier (slice_split is_dot rest)) is more

-- a dot between two texts
dotted : (front back : List ℕ) → (front ++ 46 ∷ []) ++ back ≡ front ++ 46 ∷ back
dotted front back = append_assoc front (46 ∷ []) back

-- ---- places and sites

place_identifier : (x y : ℕ) → is_identifier (place_name x y) ≡ true
place_identifier x y = all_append is_of_name (decimal x ++ 89 ∷ []) (decimal y) (all_append is_of_name (decimal x) (89 ∷ []) (decimal_named x) refl) (decimal_named y)

letter_identifier : (bel : ℕ) → bel < 26 → is_identifier ((65 + bel) ∷ []) ≡ true
letter_identifier bel few =
    let begins : begins_name (65 + bel) ≡ true = grind (arith, nat_tests) in
    let byte : is_of_name (65 + bel) ≡ true = grind (arith, nat_tests) in
    and_from (begins_name (65 + bel)) (list_all is_of_name ((65 + bel) ∷ [])) begins (and_from (is_of_name (65 + bel)) true byte refl)

-- as X1Y2.A.INIT
pub field_spelled : (site : Site) (field : List ℕ) → site.bel < 26 → is_identifier field ≡ true → is_feature (field_name site field) ≡ true
field_spelled site field few is =
    let place = place_name site.x site.y in
    let same : field_name site field ≡ place ++ 46 ∷ (65 + site.bel) ∷ 46 ∷ field =
    dotted (site_name site.x site.y site.bel) field ∙ ap (λ (front : List ℕ). front ++ 46 ∷ field) (dotted place ((65 + site.bel) ∷ []))
    ∙ append_assoc place (46 ∷ (65 + site.bel) ∷ []) (46 ∷ field) in
    ap is_feature same
    ∙ front_name place ((65 + site.bel) ∷ 46 ∷ field) (place_identifier site.x site.y)
    (front_name ((65 + site.bel) ∷ []) field (letter_identifier site.bel few) (last_name field is))

-- as X1Y2.E1END0.LA_I0
pub pair_spelled : (fabric : PlainFabric) (x y input output : ℕ) → is_identifier (name_at fabric x y input) ≡ true → is_identifier (name_at fabric x y output) ≡ true →
    is_feature (pair_name fabric x y input output) ≡ true
pair_spelled fabric x y input output from to =
    let place = place_name x y in
    let first = name_at fabric x y input in
    let second = name_at fabric x y output in
    let same : pair_name fabric x y input output ≡ place ++ 46 ∷ (first ++ 46 ∷ second) =
    dotted ((place ++ 46 ∷ []) ++ first) second ∙ ap (λ (front : List ℕ). front ++ 46 ∷ second) (dotted place first) ∙ append_assoc place (46 ∷ first) (46 ∷ second) in
    ap is_feature same ∙ front_name place (first ++ 46 ∷ second) (place_identifier x y) (front_name first second from (last_name second to))
