-- The parts of a text.
use Rattle.std.proofs.Common.{◌≡◌, ℕ, List, [], ◌∷◌, ◌++◌, Option, Some, sym, ap, ◌∙◌, append_assoc, append-nil}
use Rattle.std.proofs.lemmas.Grind.{flat_map-append}
use Rattle.std.proofs.lemmas.List.Concat.{flat_map-cons}
use Rattle.fab_texts.specs.Rows.{Word}
use Rattle.fab_texts.specs.Printed.{row_text, rows_text}
use Rattle.fab_impl.specs.Openings.{reset_version}
use Rattle.fab_impl.specs.Spelled.{header, headers, reset_line}

-- a line alone
pub one_row : (row : List Word) → rows_text (row ∷ []) ≡ row_text row
one_row row = flat_map-cons row_text row [] ∙ append-nil (row_text row)

-- the first lines of a text with a reset port
pub headers_put : (reset : Option Word) (port bytes : Word) (out out1 out2 : List ℕ) → reset ≡ Some port → bytes ≡ port → out1 ≡ out ++ row_text (header reset_version) → out2 ≡ out1 ++ row_text (reset_line bytes)
    → out2 ≡ out ++ rows_text (headers reset)
headers_put reset port bytes out out1 out2 is named put1 put2 =
    let first = header reset_version in
    put2 ∙ ap (λ (t : List ℕ). t ++ row_text (reset_line bytes)) put1
    ∙ append_assoc out (row_text first) (row_text (reset_line bytes))
    ∙ ap (λ (t : List ℕ). out ++ (row_text first ++ t)) (sym (one_row (reset_line bytes)))
    ∙ ap (λ (t : List ℕ). out ++ t) (sym (flat_map-cons row_text first (reset_line bytes ∷ [])))
    ∙ ap (λ (p : Word). out ++ rows_text (headers (Some p))) named
    ∙ ap (λ (r : Option Word). out ++ rows_text (headers r)) (sym is)

pub six_parts : (first : List (List Word)) (last : List Word) (a b c d : List (List Word)) (out1 out2 out3 out4 out5 out6 : List ℕ)
    → out1 ≡ rows_text first → out2 ≡ out1 ++ rows_text a → out3 ≡ out2 ++ rows_text b → out4 ≡ out3 ++ rows_text c → out5 ≡ out4 ++ rows_text d → out6 ≡ out5 ++ row_text last
    → out6 ≡ rows_text (first ++ (a ++ b ++ c ++ d ++ last ∷ []))
six_parts first last a b c d out1 out2 out3 out4 out5 out6 put1 put2 put3 put4 put5 put6 =
    let inner : rows_text (a ++ b ++ c ++ d ++ last ∷ []) ≡ rows_text a ++ rows_text b ++ rows_text c ++ rows_text d ++ row_text last =
    flat_map-append row_text (a ++ b ++ c ++ d) (last ∷ [])
    ∙ ap (λ (t : List ℕ). rows_text (a ++ b ++ c ++ d) ++ t) (one_row last)
    ∙ ap (λ (t : List ℕ). t ++ row_text last) (flat_map-append row_text (a ++ b ++ c) d
    ∙ ap (λ (t : List ℕ). t ++ rows_text d) (flat_map-append row_text (a ++ b) c
    ∙ ap (λ (t : List ℕ). t ++ rows_text c) (flat_map-append row_text a b))) in
    let shape : rows_text first ++ (rows_text a ++ rows_text b ++ rows_text c ++ rows_text d ++ row_text last) ≡ ((((rows_text first ++ rows_text a) ++ rows_text b) ++ rows_text c) ++ rows_text d) ++ row_text last =
    sym (append_assoc (rows_text first) (rows_text a ++ rows_text b ++ rows_text c ++ rows_text d) (row_text last))
    ∙ ap (λ (t : List ℕ). t ++ row_text last) (sym (append_assoc (rows_text first) (rows_text a ++ rows_text b ++ rows_text c) (rows_text d))
    ∙ ap (λ (t : List ℕ). t ++ rows_text d) (sym (append_assoc (rows_text first) (rows_text a ++ rows_text b) (rows_text c))
    ∙ ap (λ (t : List ℕ). t ++ rows_text c) (sym (append_assoc (rows_text first) (rows_text a) (rows_text b))))) in
    put6
    ∙ ap (λ (t : List ℕ). t ++ row_text last) (put5 ∙ ap (λ (t : List ℕ). t ++ rows_text d) (put4 ∙ ap (λ (t : List ℕ). t ++ rows_text c) (put3 ∙ ap (λ (t : List ℕ). t ++ rows_text b) (put2 ∙ ap (λ (t : List ℕ). t ++ rows_text a) put1))))
    ∙ sym (flat_map-append row_text first (a ++ b ++ c ++ d ++ last ∷ []) ∙ ap (λ (t : List ℕ). rows_text first ++ t) inner ∙ shape)
