-- How places and sites are read.
use Rattle.std.specs.Prelude.{◌<◌, ◌+◌, ◌-◌, ◌*◌, ℕ, List, [], ◌∷◌, ◌==◌, ◌&&◌, nat_lt, if◌then◌else◌, Option, Some, None}
use Rattle.std.specs.Option.{option_and_then}
use Rattle.fab_lines.specs.Numbers.{is_digit}
use Rattle.fab_lines.specs.Names.{is_between}
use Rattle.fab_fabric.specs.declared.wire.Site.{Site}

-- the numbers of a site that can be written
pub record IsWritable (site : Site) : Type 0 where
  pub x : site.x < 32
  pub y : site.y < 31
  pub bel : site.bel < 26

-- a number of one or two digits without a leading zero in front of a text, and the bytes after it
abbrev pub number_at : List ℕ → Option (ℕ × List ℕ)
number_at [] = None
number_at (a ∷ []) = if is_digit a then Some (a - 48, []) else None
number_at (a ∷ b ∷ rest) =
    if is_digit a then (if is_digit b then (if a == 48 then None else Some (10 * (a - 48) + (b - 48), rest)) else Some (a - 48, b ∷ rest)) else None

-- the bytes after this one
abbrev pub after_byte : ℕ → List ℕ → Option (List ℕ)
after_byte b [] = None
after_byte b (c ∷ rest) = if c == b then Some rest else None

-- the BEL of a letter, A for the first
abbrev pub letter_of : List ℕ → Option ℕ
letter_of [] = None
letter_of (b ∷ []) = if is_between 65 90 b then Some (b - 65) else None
letter_of (b ∷ c ∷ more) = None

infixl 10 ◌>>=◌
abbrev pub ◌>>=◌ : {A B : Type 0} → Option A → (A → Option B) → Option B
found >>= next = option_and_then next found

-- a place as X1Y2 in front of a text: x below 32, y below 31, and the bytes after it
pub record PlaceAt : Type 0 where
  pub x : ℕ
  pub y : ℕ
  pub rest : List ℕ

unfoldable pub place_at : List ℕ → Option PlaceAt
place_at word = do
  a ← after_byte 88 word
  x ← number_at a
  b ← after_byte 89 x.1
  y ← number_at b
  if nat_lt x.0 32 && nat_lt y.0 31 then Some (record { x = x.0; y = y.0; rest = y.1 }) else None

-- the site of a word, as X1Y2.A
unfoldable pub site_of : List ℕ → Option Site
site_of word = do
  place ← place_at word
  letter ← after_byte 46 place.rest
  bel ← letter_of letter
  Some (record { x = place.x; y = place.y; bel = bel })
