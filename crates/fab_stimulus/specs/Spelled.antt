-- Which stimulus a text spells.
use Rattle.std.specs.Prelude.{◌≡◌, Bool, true, false, List, [], ◌∷◌, length, map, All, Contains, codes, slice_index_or, ℕ}
use Rattle.fab_lines.specs.Order.{IsWhole}
use Rattle.fab_texts.specs.Rows.{Word, PlainRow, words_of}
use Rattle.fab_state.specs.Spelled.{AreApart}
use Rattle.fab_stimulus.specs.Stimuli.{known, place_in, stimulus_format}

-- `-` stands in the place of no names and of no digits
abbrev pub names_line : (names : List Word) → List Word
names_line [] = codes "-" ∷ []
names_line (name ∷ names) = name ∷ names

abbrev pub digits_line : (digits : Word) → List Word
digits_line [] = codes "-" ∷ []
digits_line (digit ∷ digits) = (digit ∷ digits) ∷ []

abbrev pub digit : Bool → ℕ
digit false = 48
digit true = 49

-- The digits of values, which stand in the order of the ports, for these names in their order.
abbrev pub digits_for : (ports names : List Word) → (values : List Bool) → Word
digits_for ports names values = map (λ name. digit (slice_index_or values (place_in ports name) false)) names

-- The first line of a text that holds a word names each port once and nothing else, in any order. Each other one has for each name
-- the digit of its port's value.
pub record Spells (ports : List Word) (rows : List PlainRow) (lines : List (List Bool)) : Type 0 where
  pub names : List Word
  pub named : All (Contains names) ports
  pub only : All (Contains ports) names
  pub apart : AreApart names
  pub sizes : All (λ values. length values ≡ length ports) lines
  pub rows_are : words_of rows ≡ names_line names ∷ map (λ values. digits_line (digits_for ports names values)) lines

-- a text is whole, and these are the values that its lines give
abbrev pub Says : (ports : List Word) → List PlainRow → List (List Bool) → Type 0
Says ports rows lines = IsWhole (stimulus_format ports) rows × (lines ≡ (known ports (words_of rows)).lines)

-- what is spelled is read
abbrev pub SpelledStimuliAreRead : Type 0
SpelledStimuliAreRead =
    (ports : List Word) (rows : List PlainRow) (lines : List (List Bool)) → AreApart ports → Spells ports rows lines → Says ports rows lines
