-- A text that is printed is read, line by line.
use Rattle.std.proofs.Common.{◌≡◌, ℕ, ◌+◌, ◌-◌, true, false, cond, not, eqb, All, List, [], ◌∷◌, ◌++◌, length, map, get_or, take, drop, refl, sym, ap, subst, ◌∙◌, arith, append_assoc}
use Rattle.std.specs.List.{list_all}
use Rattle.std.specs.Str.Lines.{lines, strip_carriage_return}
use Rattle.std.proofs.Math.Seq.{take-append_seam}
use Rattle.std.proofs.lemmas.Bool.{and_parts, not-true}
use Rattle.std.proofs.lemmas.List.Elements.{All-head, All-tail}
use Rattle.std.proofs.lemmas.List.Sums.{AllPass-from_list_all}
use Rattle.fab_lines.proofs.FirstLine.{lines_at_feed}
use Rattle.fab_fasm.specs.declared.feature.Feature.{Feature}
use Rattle.fab_fasm.specs.Printing.{feature_text, printed, HasSpelling, line_by_line}
use Rattle.fab_fasm.specs.Spelled.{SpellsFrom, ends, goes_on, SpellsFasm}
use Rattle.fab_fasm.proofs.Cutting.{differs, position_at, drop_behind, list_all_weaker}
use Rattle.fab_fasm.proofs.Clean.{is_clean, feature_clean}
use Rattle.fab_fasm.proofs.PrintedParts.{feature_says}

-- ---- a line without the bytes that end one

strip_clean : (line : List ℕ) → list_all is_clean line ≡ true → strip_carriage_return line ≡ line
strip_clean [] clean = refl
strip_clean (first ∷ line) clean =
    let last = length (first ∷ line) - 1 in
    let byte = AllPass-from_list_all is_clean (first ∷ line) clean last 0 (omega arith) in
    let other : eqb (get_or (first ∷ line) last 0) 13 ≡ false = not-true (eqb (get_or (first ∷ line) last 0) 13) (and_parts (not (eqb (get_or (first ∷ line) last 0) 10)) (not (eqb (get_or (first ∷ line) last 0) 13)) byte).1 in
    ap (λ b. cond b (take last (first ∷ line)) (first ∷ line)) other

-- a line and those after it
lines_push : (line rest : List ℕ) → list_all is_clean line ≡ true → lines ((line ++ 10 ∷ []) ++ rest) ≡ line ∷ lines rest
lines_push line rest clean =
    let no_feed = list_all_weaker is_clean (differs 10) line (λ byte is. (and_parts (not (eqb byte 10)) (not (eqb byte 13)) is).0) clean in
    ap lines (append_assoc line (10 ∷ []) rest)
    ∙ lines_at_feed (line ++ 10 ∷ rest) (length line) (position_at 10 line rest no_feed)
    ∙ ap (λ (l : List ℕ). strip_carriage_return l ∷ lines (drop (length line + 1) (line ++ 10 ∷ rest))) (take-append_seam line (10 ∷ rest))
    ∙ ap (λ (l : List ℕ). l ∷ lines (drop (length line + 1) (line ++ 10 ∷ rest))) (strip_clean line clean)
    ∙ ap (λ (r : List ℕ). line ∷ lines r) (drop_behind line 10 rest)

-- ---- all lines

lines_printed : (features : List Feature) → All HasSpelling features → lines (printed features) ≡ map feature_text features
lines_printed [] all = refl
lines_printed (feature ∷ features) all =
    lines_push (feature_text feature) (printed features) (feature_clean feature (All-head HasSpelling feature features all))
    ∙ ap (λ (ls : List (List ℕ)). feature_text feature ∷ ls) (lines_printed features (All-tail HasSpelling feature features all))

features_said : (number : ℕ) (features : List Feature) → All HasSpelling features → SpellsFrom number (map feature_text features) (line_by_line number features)
features_said number [] all = ends
features_said number (feature ∷ features) all =
    goes_on (feature_says number feature (All-head HasSpelling feature features all)) (features_said (number + 1) features (All-tail HasSpelling feature features all))

pub printed_spells : (features : List Feature) → All HasSpelling features → SpellsFasm (lines (printed features)) (line_by_line 1 features)
printed_spells features all = subst (λ (ls : List (List ℕ)). SpellsFasm ls (line_by_line 1 features)) (sym (lines_printed features all)) (features_said 1 features all)
