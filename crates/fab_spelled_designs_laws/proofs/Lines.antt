-- The lines of a text, without comments and joined, and their words.
use Rattle.std.proofs.Common.{◌≡◌, ℕ, zero, suc, ◌+◌, ◌==◌, Bool, true, false, not, List, [], ◌∷◌, map, take, inl, inr}
use Rattle.std.specs.List.{AllByRecursion as Each, enumerate_from, filter, onto_first, slice_split}
use Rattle.std.specs.Str.Lines.{lines}
use Rattle.std.proofs.lemmas.Bool.{cases_Bool}
use Rattle.fab_lines.specs.Joined.{goes_on, joined, joined_lines, onto_next, without_last}
use Rattle.fab_lines.specs.Parts.{uncommented}
use Rattle.fab_blif_models.specs.Words.{Word, is_of_word, words}
use Rattle.fab_lines.specs.Items.{is_filled}
use Rattle.fab_blif_models.specs.Spelled.{Line}
use Rattle.fab_blif_models.proofs.Parts.{before_more, before_stop}
use Rattle.fab_blif.proofs.Each.{each_joined}

-- ---- parts of lists

pub each_taken : {X : Type 0} (P : X → Type 0) (count : ℕ) (xs : List X) → Each P xs → Each P (take count xs)
each_taken P zero xs all = tt
each_taken P (suc count) [] all = tt
each_taken P (suc count) (x ∷ xs) all = (all.0, each_taken P count xs all.1)

-- where a list is cut at items that pass, no item of a part passes
module _ {X : Type 0} (P : X → Type 0) (test : X → Bool) where
  abbrev IsOfPart : X → Type 0
  IsOfPart x = (test x ≡ false) × P x

  each_onto : (x : X) (parts : List (List X)) → IsOfPart x → Each (Each IsOfPart) parts → Each (Each IsOfPart) (onto_first x parts)
  each_onto x [] here all = ((here, tt), tt)
  each_onto x (part ∷ parts) here all = ((here, all.0), all.1)

  pub each_cut : (xs : List X) → Each P xs → Each (Each IsOfPart) (slice_split test xs)
  each_cut [] all = (tt, tt)
  each_cut (x ∷ xs) all = elim (cases_Bool (test x)) [
    | inl t ↦ rw t (tt, each_cut xs all.1)
    | inr f ↦ rw f (each_onto x (slice_split test xs) (f, all.0) (each_cut xs all.1))
  ]

-- what is kept passes
pub each_passes : {X : Type 0} (P : X → Type 0) (test : X → Bool) (xs : List X) → Each P xs → Each (λ x. (test x ≡ true) × P x) (filter test xs)
each_passes P test [] all = tt
each_passes P test (x ∷ xs) all = elim (cases_Bool (test x)) [
  | inl t ↦ rw t ((t, all.0), each_passes P test xs all.1)
  | inr f ↦ rw f (each_passes P test xs all.1)
]

-- ---- lines

-- no byte is `#`
abbrev pub IsBare : List ℕ → Type 0
IsBare line = Each (λ byte. (byte == 35) ≡ false) line

bare_line : (line : List ℕ) → IsBare (uncommented line)
bare_line [] = tt
bare_line (byte ∷ line) = elim (cases_Bool (byte == 35)) [
  | inl t ↦ rw (before_stop (λ b. b == 35) byte line t) tt
  | inr f ↦ rw (before_more (λ b. b == 35) byte line f) (f, bare_line line)
]

bare_lines : (text : List (List ℕ)) → Each IsBare (map uncommented text)
bare_lines [] = tt
bare_lines (line ∷ text) = (bare_line line, bare_lines text)

bare_onto : (front : List ℕ) (next : List (List ℕ)) → IsBare front → Each IsBare next → Each IsBare (onto_next front next)
bare_onto front [] here all = (here, tt)
bare_onto front (line ∷ rest) here all = (each_joined (λ byte. (byte == 35) ≡ false) front line here all.0, (tt, all.1))

bare_joined : (text : List (List ℕ)) → Each IsBare text → Each IsBare (joined text)
bare_joined [] all = tt
bare_joined (line ∷ rest) all = elim (cases_Bool (goes_on line)) [
  | inl t ↦ rw t (bare_onto (without_last line) (joined rest) (each_taken (λ byte. (byte == 35) ≡ false) _ line all.0) (bare_joined rest all.1))
  | inr f ↦ rw f (all.0, bare_joined rest all.1)
]

-- ---- words

-- a byte of a word
abbrev pub IsOfWord : ℕ → Type 0
IsOfWord byte = (not (is_of_word byte) ≡ false) × ((byte == 35) ≡ false)

abbrev pub IsSpoken : Word → Type 0
IsSpoken word = (is_filled word ≡ true) × Each IsOfWord word

abbrev pub AreSpoken : List Word → Type 0
AreSpoken line = Each IsSpoken line

spoken_line : (line : List ℕ) → IsBare line → AreSpoken (words line)
spoken_line line bare = each_passes (Each IsOfWord) is_filled (slice_split (λ byte. not (is_of_word byte)) line) (each_cut (λ byte. (byte == 35) ≡ false) (λ byte. not (is_of_word byte)) line bare)

spoken_lines : (number : ℕ) (text : List (List ℕ)) → Each IsBare text → Each (λ (line : Line). AreSpoken line.1) (enumerate_from number (map words text))
spoken_lines number [] all = tt
spoken_lines number (line ∷ text) all = (spoken_line line all.0, spoken_lines (number + 1) text all.1)

-- the words of the lines of a text
pub lines_are_spoken : (bytes : List ℕ) → Each (λ (line : Line). AreSpoken line.1) (enumerate_from 1 (map words (joined_lines bytes)))
lines_are_spoken bytes = spoken_lines 1 (joined_lines bytes) (bare_joined (map uncommented (lines bytes)) (bare_lines (lines bytes)))
