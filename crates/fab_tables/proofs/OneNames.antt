-- A cell without signs is one name.
use Rattle.std.proofs.Common.{◌≡◌, ℕ, ◌*◌, Bool, true, false, ◌||◌, eqb, List, [], ◌∷◌, ◌++◌, map, Some, refl, sym, ap, ◌∙◌, append-nil}
use Rattle.std.specs.List.{All, list_any, flat_map, slice_split}
use Rattle.std.proofs.lemmas.Bool.{or_parts}
use Rattle.std.proofs.lemmas.List.Elements.{All-nil, All-cons}
use Rattle.std.proofs.lemmas.List.Splits.{slice_split_none}
use Rattle.fab_tables.specs.Cells.{is_open, is_close, is_bar, is_open_brace, is_close_brace, is_brace, begins_repeat, body, repeats, has_brackets, parts, parts_of, product, names, count}
use Rattle.fab_tables.specs.Lists.{size}
use Rattle.fab_tables.specs.inner.Expanding.{is_sign}

-- what is no sign
record IsNone (byte : ℕ) : Type 0 where
  pub opening : is_open byte ≡ false
  pub close : is_close byte ≡ false
  pub bar : is_bar byte ≡ false
  pub brace : is_brace byte ≡ false

none_is : (byte : ℕ) → is_sign byte ≡ false → IsNone byte
none_is byte none =
    let last = or_parts (is_open byte || is_close byte || is_bar byte) (is_brace byte) none in
    let third = or_parts (is_open byte || is_close byte) (is_bar byte) last.0 in
    let first = or_parts (is_open byte) (is_close byte) third.0 in
    record { opening = first.0; close = first.1; bar = third.1; brace = last.1 }

-- a test that only signs pass
passes_none : (test : ℕ → Bool) → ((byte : ℕ) → IsNone byte → test byte ≡ false) → (cell : List ℕ) → list_any is_sign cell ≡ false → list_any test cell ≡ false
passes_none test fails [] none = refl
passes_none test fails (byte ∷ cell) none =
    let both = or_parts (is_sign byte) (list_any is_sign cell) none in
    let first = fails byte (none_is byte both.0) in
    rw first (passes_none test fails cell both.1)

no_open : (cell : List ℕ) → list_any is_sign cell ≡ false → All (λ byte. is_open byte ≡ false) cell
no_open [] none = All-nil (λ byte. is_open byte ≡ false)
no_open (byte ∷ cell) none =
    let both = or_parts (is_sign byte) (list_any is_sign cell) none in
    All-cons (λ b. is_open b ≡ false) byte cell (none_is byte both.0).opening (no_open cell both.1)

no_repeat : (cell : List ℕ) → list_any is_sign cell ≡ false → begins_repeat cell ≡ false
no_repeat [] none = refl
no_repeat (byte ∷ cell) none =
    let both = or_parts (is_sign byte) (list_any is_sign cell) none in
    let braces = or_parts (is_open_brace byte) (is_close_brace byte) (none_is byte both.0).brace in
    rw (braces.0) refl

module _ (cell : List ℕ) (none : list_any is_sign cell ≡ false) where
  once : repeats cell ≡ 1
  once = let no = no_repeat cell none in rw no refl

  whole : body cell ≡ cell
  whole = let no = no_repeat cell none in rw no refl

  one_piece : slice_split is_open (body cell) ≡ cell ∷ []
  one_piece = ap (slice_split is_open) whole ∙ slice_split_none is_open cell (no_open cell none)

  brackets : has_brackets cell ≡ true
  brackets =
      let braces : list_any is_brace (body cell) ≡ false = ap (list_any is_brace) whole ∙ passes_none is_brace (λ byte no. no.brace) cell none in
      let closes : list_any is_close cell ≡ false = passes_none is_close (λ byte no. no.close) cell none in
      let bars : list_any is_bar cell ≡ false = passes_none is_bar (λ byte no. no.bar) cell none in
      let piece = one_piece in
      rw (braces, piece, closes, bars) refl

  one_product : product (parts cell) ≡ cell ∷ []
  one_product = ap (λ pieces. product (parts_of pieces)) one_piece ∙ ap (λ name. name ∷ []) (append-nil cell)

  pub one_name : names cell ≡ cell ∷ []
  one_name = let times = once in let made = one_product in rw (times, made) refl

  pub one_of_size : size cell ≡ Some 1
  one_of_size = let matching = brackets in let times = once in let piece = one_piece in rw (matching, times, piece) refl
