-- How long printed rows of words are.
use Rattle.std.proofs.Common.{◌≡◌, ℕ, ◌+◌, ◌*◌, ◌<◌, ◌≤◌, All, List, [], ◌∷◌, ◌++◌, codes, decimal, length, map, slice_index_or, Contains, ap, inl, inr, arith, length-append}
use Rattle.std.proofs.lemmas.Bool.{cases_lt}
use Rattle.std.proofs.lemmas.Fmt.{length-decimal-le}
use Rattle.std.proofs.lemmas.List.{get_or_past}
use Rattle.std.proofs.lemmas.List.Concat.{length-flat_map}
use Rattle.std.proofs.lemmas.List.Elements.{All-contains_itself}
use Rattle.std.proofs.lemmas.List.Folds.{flat_map-map}
use Rattle.std.proofs.lemmas.List.Sums.{sum_by-le}
use Rattle.std.proofs.lemmas.Grind.{flat_map-append}
use Rattle.fab_fabric.specs.Names.{place_name, site_text}
use Rattle.fab_fabric.specs.declared.wire.Site.{Site}
use Rattle.fab_texts.specs.Rows.{Word}
use Rattle.fab_texts.specs.Printed.{spaced, row_text, rows_text}
use Rattle.fab_legal_states_laws.specs.ShortLaws.{IsShortName}

-- ---- one row

-- the bytes of words, each with the blank or the LF behind it
abbrev pub words_length : List Word → ℕ
words_length [] = 0
words_length (word ∷ words) = length word + (1 + words_length words)

joined_length : (word : Word) (more : List Word) → length (spaced (word ∷ more)) + 1 ≡ words_length (word ∷ more)
joined_length word [] = omega arith
joined_length word (next ∷ more) = omega (arith, length-append word (32 ∷ spaced (next ∷ more)), joined_length next more)

pub row_length : (word : Word) (more : List Word) → length (row_text (word ∷ more)) ≡ words_length (word ∷ more)
row_length word more = omega (arith, length-append (spaced (word ∷ more)) (10 ∷ []), joined_length word more)

-- ---- many rows

pub rows_behind : (front back : List (List Word)) → length (rows_text (front ++ back)) ≡ length (rows_text front) + length (rows_text back)
rows_behind front back = omega (arith, ap length (flat_map-append row_text front back), length-append (rows_text front) (rows_text back))

-- rows that are made of items
pub rows_within : {X : Type 0} (line : X → List Word) (bound : ℕ) (xs : List X) → ((x : X) → Contains xs x → length (row_text (line x)) ≤ bound) →
    length (rows_text (map line xs)) ≤ length xs * bound
rows_within line bound xs all =
    omega (
      arith,
      ap length (flat_map-map row_text line xs),
      length-flat_map (λ x. row_text (line x)) xs,
      sum_by-le (λ x. length (row_text (line x))) bound xs (λ k d few. all _ (All-contains_itself xs k d few)),
    )

-- ---- names of places

pub place_length : (x y : ℕ) → x < 32 → y < 32 → length (place_name x y) ≤ 6
place_length x y few_x few_y =
    omega (
      arith,
      length-append (decimal x ++ 89 ∷ []) (decimal y),
      length-append (decimal x) (89 ∷ []),
      length-decimal-le 2 x (omega arith) (omega (arith, few_x)) (omega (arith, few_x)),
      length-decimal-le 2 y (omega arith) (omega (arith, few_y)) (omega (arith, few_y)),
    )

pub site_length : (site : Site) → site.x < 32 → site.y < 32 → length (site_text site) ≤ 8
site_length site few_x few_y =
    omega (
      arith,
      length-append (place_name site.x site.y ++ codes ".") ((65 + site.bel) ∷ []),
      length-append (place_name site.x site.y) (codes "."),
      place_length site.x site.y few_x few_y,
    )

-- a name of a list, or none
pub name_or_none : (names : List Word) → All IsShortName names → (place : ℕ) → IsShortName (slice_index_or names place [])
name_or_none names all place = elim (cases_lt place (length names)) [
  | inl few ↦ all place [] few
  | inr past ↦ omega (arith, ap length (get_or_past names place [] past))
]
