-- Which state a text spells.
use Rattle.std.specs.Prelude.{◌≡◌, ◌≢◌, ℕ, Bool, true, false, List, [], ◌∷◌, ◌++◌, map, codes, All, AllPairs, ◌<◌}
use Rattle.std.specs.List.{AllByRecursion, list_all}
use Rattle.fab_fabric.specs.declared.wire.Site.{Site}
use Rattle.fab_implementation.specs.Plain.{Pad}
use Rattle.fab_lines.specs.Order.{Format, IsWhole}
use Rattle.fab_texts.specs.Rows.{Word, PlainRow, words_of}
use Rattle.fab_fabric.specs.Names.{site_text}
use Rattle.fab_texts.specs.Places.{IsWritable}
use Rattle.fab_texts.specs.Formats.{text_format}
use Rattle.fab_texts.specs.Sections.{version, ending, cut_short}
use Rattle.fab_texts.specs.Printed.{rows_text, is_word}
use Rattle.fab_state.specs.Plain.{Register, PlainState}
use Rattle.fab_state.specs.Lines.{Known, known, take}

-- ---- the lines of a state

abbrev pub header : List Word
header = codes "fabulous-state" ∷ version ∷ []

abbrev pub pad_line : (first : Word) → Pad → List Word
pad_line first pad = first ∷ pad.0 ∷ site_text pad.1 ∷ []

abbrev pub digit : Bool → Word
digit false = codes "0"
digit true = codes "1"

abbrev pub ff_line : Register → List Word
ff_line register = codes "ff" ∷ site_text register.0 ∷ digit register.1 ∷ []

abbrev pub inner_lines : PlainState → List (List Word)
inner_lines state = map (pad_line (codes "in")) state.ins ++ map (pad_line (codes "out")) state.outs ++ map ff_line state.ffs

-- the first line, a line for each port and each flip-flop, and the last line
abbrev pub state_lines : PlainState → List (List Word)
state_lines state = header ∷ (inner_lines state ++ ending ∷ [])

-- the text that is printed
abbrev pub state_text : PlainState → List ℕ
state_text state = rows_text (state_lines state)

-- ---- the states of texts

abbrev pub ports : PlainState → List Word
ports state = map (λ pad. pad.0) (state.ins ++ state.outs)

abbrev pub sites : List Pad → List Site
sites pads = map (λ pad. pad.1) pads

abbrev pub AreApart : {X : Type 0} → List X → Type 0
AreApart items = AllPairs (λ first second. first ≢ second) items

-- sites can be written, and no port and no site of a kind stands twice
pub record IsFresh (state : PlainState) : Type 0 where
  pub in_sites : AllByRecursion (λ pad. IsWritable pad.1) state.ins
  pub out_sites : AllByRecursion (λ pad. IsWritable pad.1) state.outs
  pub ff_sites : AllByRecursion (λ register. IsWritable register.0) state.ffs
  pub ports : AreApart (ports state)
  pub ins : AreApart (sites state.ins)
  pub outs : AreApart (sites state.outs)
  pub ffs : AreApart (map (λ register. register.0) state.ffs)

-- The lines of a text that hold a word are those of the state, and the state is fresh.
pub record Spells (rows : List PlainRow) (state : PlainState) : Type 0 where
  pub lines : words_of rows ≡ state_lines state
  pub fresh : IsFresh state

-- a state that a text can spell: fresh, and its ports are words
pub record HasSpelling (state : PlainState) : Type 0 where
  pub fresh : IsFresh state
  pub words : list_all is_word (ports state) ≡ true

-- the BEL of each site has a letter
pub record HasLetters (state : PlainState) : Type 0 where
  pub ins : All (λ pad. pad.1.bel < 26) state.ins
  pub outs : All (λ pad. pad.1.bel < 26) state.outs
  pub ffs : All (λ register. register.0.bel < 26) state.ffs

-- ---- the refusals of texts

abbrev pub state_of : Known → PlainState
state_of old = record { ins = old.ins; outs = old.outs; ffs = old.ffs }

abbrev pub state_format : Format PlainRow
state_format = text_format known take (λ old. cut_short old.last)

-- ---- what is spelled is read

-- a text is whole, and this is the state that its lines say
abbrev pub Says : List PlainRow → PlainState → Type 0
Says rows state = IsWhole state_format rows × (state ≡ state_of (known (words_of rows)))

abbrev pub SpelledStatesAreRead : Type 0
SpelledStatesAreRead = (rows : List PlainRow) (state : PlainState) → Spells rows state → Says rows state
