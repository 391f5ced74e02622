-- What is printed of a state is words.
use Rattle.std.proofs.Common.{◌≡◌, ℕ, Bool, true, false, List, [], ◌∷◌, ◌++◌, map, refl, codes}
use Rattle.std.specs.List.{list_all, AllByRecursion}
use Rattle.fab_texts.specs.Printed.{is_word, ends_line, is_last_word, is_row}
use Rattle.fab_fabric.specs.Names.{site_text}
use Rattle.fab_texts.specs.Places.{IsWritable}
use Rattle.fab_texts.specs.Sections.{ending}
use Rattle.fab_texts.proofs.PrintedRows.{both_true, all_append, are_rows}
use Rattle.fab_texts.proofs.SiteWords.{site_last_word}
use Rattle.fab_implementation.specs.Plain.{Pad}
use Rattle.fab_state.specs.Plain.{Register, PlainState}
use Rattle.fab_state.specs.Spelled.{pad_line, digit, ff_line, state_lines, HasSpelling}

pads_rows : (first : List ℕ) → is_word first ≡ true → (pads : List Pad) → AllByRecursion (λ pad. IsWritable pad.1) pads → list_all is_word (map (λ pad. pad.0) pads) ≡ true → are_rows (map (pad_line first) pads) ≡ true
pads_rows first is [] sites words = refl
pads_rows first is (pad ∷ pads) sites words =
    let b = both_true (is_word pad.0) (list_all is_word (map (λ (p : Pad). p.0) pads)) words in
    rw (is, b.0, site_last_word pad.1 sites.0, pads_rows first is pads sites.1 b.1) refl

digit_last : (bit : Bool) → is_last_word (digit bit) ≡ true
digit_last true = refl
digit_last false = refl

ffs_rows : (ffs : List Register) → AllByRecursion (λ register. IsWritable register.0) ffs → are_rows (map ff_line ffs) ≡ true
ffs_rows [] sites = refl
ffs_rows (ff ∷ ffs) sites =
    let site = both_true (is_word (site_text ff.0)) (ends_line (site_text ff.0)) (site_last_word ff.0 sites.0) in
    rw (site.0, digit_last ff.1, ffs_rows ffs sites.1) refl

all_front : {X : Type 0} (p : X → Bool) (f : Pad → X) (xs ys : List Pad) → list_all p (map f (xs ++ ys)) ≡ true → (list_all p (map f xs) ≡ true) × (list_all p (map f ys) ≡ true)
all_front p f [] ys h = (refl, h)
all_front p f (x ∷ xs) ys h =
    let b = both_true (p (f x)) (list_all p (map f (xs ++ ys))) h in
    let r = all_front p f xs ys b.1 in
    (rw (b.0, r.0) refl, r.1)

pub state_rows : (state : PlainState) → HasSpelling state → are_rows (state_lines state) ≡ true
state_rows state has =
    let words = all_front is_word (λ (pad : Pad). pad.0) state.ins state.outs has.words in
    let ins = pads_rows (codes "in") refl state.ins has.fresh.in_sites words.0 in
    let outs = pads_rows (codes "out") refl state.outs has.fresh.out_sites words.1 in
    let ffs = ffs_rows state.ffs has.fresh.ff_sites in
    all_append is_row (map (pad_line (codes "in")) state.ins ++ map (pad_line (codes "out")) state.outs ++ map ff_line state.ffs) (ending ∷ [])
    (all_append is_row (map (pad_line (codes "in")) state.ins ++ map (pad_line (codes "out")) state.outs) (map ff_line state.ffs)
    (all_append is_row (map (pad_line (codes "in")) state.ins) (map (pad_line (codes "out")) state.outs) ins outs) ffs) refl
