-- What an option is made of.
use Rattle.std.proofs.Common.{◌≡◌, ◌<◌, ℕ, ◌+◌, Bool, true, false, List, [], ◌∷◌, Option, Some, None, option_map, length, refl, arith, if◌then◌else◌}
use Rattle.std.specs.Prelude.{MatchOption}
use Rattle.std.specs.Borrow.{Bor}
use Rattle.std.specs.List.{list_any, position_or_len, before_first, after_first}
use Rattle.fab_words.specs.Arguments.{setting, is_equals}

-- the place of the first byte that passes, behind one that does and behind one that does not
place_here : (test : ℕ → Bool) (byte : ℕ) (bytes : List ℕ) → test byte ≡ true → position_or_len test (byte ∷ bytes) ≡ 0
place_here test byte bytes is = rw is

place_later : (test : ℕ → Bool) (byte : ℕ) (bytes : List ℕ) → test byte ≡ false → position_or_len test (byte ∷ bytes) ≡ position_or_len test bytes + 1
place_later test byte bytes is = rw is (omega arith)

-- a byte passes just where the place of the first one is within
none_passes : (test : ℕ → Bool) (bytes : List ℕ) → position_or_len test bytes ≡ length bytes → list_any test bytes ≡ false
none_passes test [] none = refl
none_passes test (byte ∷ bytes) none = go (test byte) refl (none_passes test bytes)
  where
    go : (passes : Bool) → test byte ≡ passes → (position_or_len test bytes ≡ length bytes → list_any test bytes ≡ false) → list_any test (byte ∷ bytes) ≡ false
    go true is rest = absurd (omega (arith, place_here test byte bytes is, none))
    go false is rest = rw is (rest (omega (arith, place_later test byte bytes is, none)))

one_passes : (test : ℕ → Bool) (bytes : List ℕ) → position_or_len test bytes < length bytes → list_any test bytes ≡ true
one_passes test [] some = absurd (omega (arith, some))
one_passes test (byte ∷ bytes) some = go (test byte) refl (one_passes test bytes)
  where
    go : (passes : Bool) → test byte ≡ passes → (position_or_len test bytes < length bytes → list_any test bytes ≡ true) → list_any test (byte ∷ bytes) ≡ true
    go true is rest = rw is
    go false is rest = rw is (rest (omega (arith, place_later test byte bytes is, some)))

-- what `split_once` gives at `=`
pub parts_are : (text : List ℕ) (found : Option (Bor (List ℕ) × Bor (List ℕ)))
    → MatchOption found (position_or_len is_equals text ≡ length text)
    (λ parts. (position_or_len is_equals text < length text) × (parts.0.now ≡ before_first is_equals text) × (parts.1.now ≡ after_first is_equals text))
    → option_map (λ parts. setting parts.0.now parts.1.now) found ≡ (if list_any is_equals text then Some (setting (before_first is_equals text) (after_first is_equals text)) else None)
parts_are text None none = rw (none_passes is_equals text none)
parts_are text (Some parts) some = rw (one_passes is_equals text some.0, some.1, some.2)
