-- Commas and blanks at the end of a line leave only empty cells, which go.
use Rattle.std.proofs.Common.{◌≡◌, ℕ, ◌+◌, ◌<◌, Bool, true, false, ◌||◌, ◌&&◌, cond, eqb, List, [], ◌∷◌, ◌++◌, length, map, append_assoc, append-nil, refl, sym, ap, ◌∙◌, inl, inr, arith}
use Rattle.std.specs.List.{slice_split, onto_first, list_all}
use Rattle.std.proofs.lemmas.Bool.{cases_Bool, and_parts}
use Rattle.std.proofs.lemmas.List.{map_push}
use Rattle.std.proofs.lemmas.List.Splits.{length-slice_split}
use Rattle.fab_lines.specs.Items.{with_last}
use Rattle.fab_lines.specs.Parts.{is_blank, is_empty_cell, trimmed, without_back, without_front, before_kept}
use Rattle.fab_lines.proofs.LastItems.{without_back-passes}
use Rattle.fab_rows.specs.inner.Plain.{is_comma, is_gap}

-- ---- one byte more

some_parts : (text : List ℕ) → 0 < length (slice_split is_comma text)
some_parts text = omega (arith, length-slice_split is_comma text)

onto_push : (first : ℕ) (parts : List (List ℕ)) (last : List ℕ) → 0 < length parts → onto_first first (parts ++ last ∷ []) ≡ onto_first first parts ++ last ∷ []
onto_push first [] last some = absurd (omega (arith, some))
onto_push first (part ∷ parts) last some = refl

-- behind one more comma stands an empty part
split_comma : (text : List ℕ) (byte : ℕ) → is_comma byte ≡ true → slice_split is_comma (text ++ byte ∷ []) ≡ slice_split is_comma text ++ [] ∷ []
split_comma [] byte comma = rw comma refl
split_comma (first ∷ text) byte comma = elim (cases_Bool (eqb first 44)) [
  | inl t ↦ rw t (ap (λ parts. [] ∷ parts) (split_comma text byte comma))
  | inr f ↦ rw f (ap (onto_first first) (split_comma text byte comma) ∙ onto_push first (slice_split is_comma text) [] (some_parts text))
]

abbrev push : ℕ → List ℕ → List ℕ
push byte part = part ++ byte ∷ []

last_of_more : (byte : ℕ) (part : List ℕ) (parts : List (List ℕ)) → 0 < length parts → with_last (push byte) (part ∷ parts) ≡ part ∷ with_last (push byte) parts
last_of_more byte part [] some = absurd (omega (arith, some))
last_of_more byte part (next ∷ parts) some = refl

onto_last : (first byte : ℕ) (parts : List (List ℕ)) → 0 < length parts → onto_first first (with_last (push byte) parts) ≡ with_last (push byte) (onto_first first parts)
onto_last first byte [] some = absurd (omega (arith, some))
onto_last first byte (part ∷ []) some = refl
onto_last first byte (part ∷ next ∷ parts) some = refl

-- another byte stands at the end of the last part
split_other : (text : List ℕ) (byte : ℕ) → is_comma byte ≡ false → slice_split is_comma (text ++ byte ∷ []) ≡ with_last (push byte) (slice_split is_comma text)
split_other [] byte other = rw other refl
split_other (first ∷ text) byte other = elim (cases_Bool (eqb first 44)) [
  | inl t ↦ rw t (ap (λ parts. [] ∷ parts) (split_other text byte other) ∙ sym (last_of_more byte [] (slice_split is_comma text) (some_parts text)))
  | inr f ↦ rw f (ap (onto_first first) (split_other text byte other) ∙ onto_last first byte (slice_split is_comma text) (some_parts text))
]

-- a blank at the end of a cell goes
trimmed_push : (part : List ℕ) (byte : ℕ) → is_blank byte ≡ true → trimmed (part ++ byte ∷ []) ≡ trimmed part
trimmed_push [] byte blank = rw blank refl
trimmed_push (first ∷ part) byte blank = elim (cases_Bool (is_blank first)) [
  | inl t ↦ rw t (trimmed_push part byte blank)
  | inr f ↦ rw f (without_back-passes is_blank (first ∷ part) byte blank)
]

trimmed_last : (parts : List (List ℕ)) (byte : ℕ) → is_blank byte ≡ true → map trimmed (with_last (push byte) parts) ≡ map trimmed parts
trimmed_last [] byte blank = refl
trimmed_last (part ∷ []) byte blank = ap (λ cell. cell ∷ []) (trimmed_push part byte blank)
trimmed_last (part ∷ next ∷ parts) byte blank = ap (λ cells. trimmed part ∷ cells) (trimmed_last (next ∷ parts) byte blank)

-- ---- all gaps at the end

abbrev cells : List ℕ → List (List ℕ)
cells text = without_back is_empty_cell (map trimmed (slice_split is_comma text))

gap_goes : (text : List ℕ) (byte : ℕ) → is_gap byte ≡ true → cells (text ++ byte ∷ []) ≡ cells text
gap_goes text byte gap = elim (cases_Bool (is_comma byte)) [
  | inl comma ↦ ap (λ parts. without_back is_empty_cell (map trimmed parts)) (split_comma text byte comma)
      ∙ ap (without_back is_empty_cell) (map_push trimmed (slice_split is_comma text) [])
      ∙ without_back-passes is_empty_cell (map trimmed (slice_split is_comma text)) [] refl
  | inr other ↦ (let blank : is_blank byte ≡ true = rw other at gap in
      ap (λ parts. without_back is_empty_cell (map trimmed parts)) (split_other text byte other)
      ∙ ap (without_back is_empty_cell) (trimmed_last (slice_split is_comma text) byte blank))
]

gaps_go : (text gaps : List ℕ) → list_all is_gap gaps ≡ true → cells (text ++ gaps) ≡ cells text
gaps_go text [] all = ap cells (append-nil text)
gaps_go text (byte ∷ gaps) all =
    let parts = and_parts (is_gap byte) (list_all is_gap gaps) all in
    ap cells (sym (append_assoc text (byte ∷ []) gaps)) ∙ gaps_go (text ++ byte ∷ []) gaps parts.1 ∙ gap_goes text byte parts.0

-- what is left of a line, and the gaps behind it
record Cut (text left : List ℕ) : Type 0 where
  pub gaps : List ℕ
  pub all : list_all is_gap gaps ≡ true
  pub whole : text ≡ left ++ gaps

cut_before : (byte : ℕ) (text left : List ℕ) → Cut text left → Cut (byte ∷ text) (before_kept is_gap byte left)
cut_before byte text [] cut = elim (cases_Bool (is_gap byte)) [
  | inl gap ↦ rw gap (
      let all : (is_gap byte && list_all is_gap cut.gaps) ≡ true = rw gap cut.all in
      record { gaps = byte ∷ cut.gaps; all = all; whole = ap (λ rest. byte ∷ rest) cut.whole })
  | inr other ↦ rw other (record { gaps = cut.gaps; all = cut.all; whole = ap (λ rest. byte ∷ rest) cut.whole })
]
cut_before byte text (first ∷ left) cut = record { gaps = cut.gaps; all = cut.all; whole = ap (λ rest. byte ∷ rest) cut.whole }

cut_of : (text : List ℕ) → Cut text (without_back is_gap text)
cut_of [] = record { gaps = []; all = refl; whole = refl }
cut_of (byte ∷ text) = cut_before byte text (without_back is_gap text) (cut_of text)

-- a line has the cells of what is left of it without the gaps at its end
pub cells_without_gaps : (text : List ℕ) → cells (without_back is_gap text) ≡ cells text
cells_without_gaps text =
    let cut = cut_of text in
    sym (ap cells cut.whole ∙ gaps_go (without_back is_gap text) cut.gaps cut.all)
