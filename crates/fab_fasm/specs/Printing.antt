-- FASM as it is printed, one line for each feature.
use Rattle.std.specs.Prelude.{◌≡◌, ℕ, zero, suc, ◌+◌, ◌/◌, ◌%◌, ◌^◌, ◌<◌, ◌≤◌, List, [], ◌∷◌, ◌++◌, ◌==◌, ◌&&◌, codes, decimal, true, if◌then◌else◌}
use Rattle.std.specs.List.{flat_map}
use Rattle.fab_fasm.specs.declared.feature.Feature.{Feature}
use Rattle.fab_fasm.specs.Parts.{is_feature, width_of}

-- so many binary digits of a number, the most significant first
unfoldable pub binary : (width number : ℕ) → List ℕ
binary zero number = []
binary (suc width) number = binary width (number / 2) ++ (48 + number % 2) ∷ []

-- bit 0 alone is left out
unfoldable pub address_text : (high low : ℕ) → List ℕ
address_text high low =
    if (high == 0) && (low == 0) then []
    else if high == low then codes "[" ++ decimal high ++ codes "]"
    else codes "[" ++ decimal high ++ codes ":" ++ decimal low ++ codes "]"

-- one bit that is 1 is left out
unfoldable pub value_text : (width value : ℕ) → List ℕ
value_text width value =
    if (width == 1) && (value == 1) then []
    else codes " = " ++ decimal width ++ codes "'b" ++ binary width value

-- the line of a feature, without its line feed
abbrev pub feature_text : Feature → List ℕ
feature_text feature = feature.name ++ address_text feature.high feature.low ++ value_text (width_of feature.high feature.low) feature.value

abbrev pub printed : List Feature → List ℕ
printed features = flat_map (λ feature. feature_text feature ++ codes "\n") features

-- A feature that a line can spell: names joined by dots, and a value of at most 128 bits that fits its address. The number of
-- a bit fits 32 bits, as each `u32` does.
pub record HasSpelling (feature : Feature) : Type 0 where
  pub named : is_feature feature.name ≡ true
  pub ordered : feature.low ≤ feature.high
  pub bounded : feature.high < 2 ^ 32
  pub narrow : width_of feature.high feature.low ≤ 128
  pub fitting : feature.value < 2 ^ width_of feature.high feature.low

-- the same features, each with its place as the number of its line
abbrev pub line_by_line : (number : ℕ) (features : List Feature) → List Feature
line_by_line number [] = []
line_by_line number (feature ∷ features) = record feature { line = number } ∷ line_by_line (number + 1) features
