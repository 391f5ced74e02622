-- What the lines of a FASM text say, by their parts: names, an address, a value, an annotation and a comment, with blanks between
-- them. (FASM specification, "Syntax description": `FasmLine`, `SetFasmFeature`, `Feature`, `FeatureAddress`, `VerilogValue`,
-- `Annotations` and `Comment`. Here a line has one annotation at most.)
use Rattle.std.specs.Prelude.{◌≡◌, ◌↔◌, ℕ, Bool, ◌+◌, ◌^◌, ◌<◌, ◌≤◌, true, List, [], ◌∷◌, ◌++◌, ◌==◌, not, length, Some, None}
use Rattle.std.specs.List.{list_all}
use Rattle.std.specs.Char.{is_digit}
use Rattle.fab_lines.specs.Order.{IsFine}
use Rattle.fab_lines.specs.Parts.{is_blank}
use Rattle.fab_fasm.specs.declared.feature.Feature.{Feature}
use Rattle.fab_fasm.specs.declared.numbers.Base.{Base}
use Rattle.fab_fasm.specs.Numbers.{radix, is_number, is_decimal, number_of}
use Rattle.fab_fasm.specs.Parts.{is_feature, width_of}
use Rattle.fab_fasm.specs.Values.{base_of}
use Rattle.fab_fasm.specs.Fasm.{fasm_judge}

-- blanks and tabs, or nothing
abbrev pub AreBlanks : List ℕ → Type 0
AreBlanks text = list_all is_blank text ≡ true

-- ---- the address

-- decimal digits, at least one, that write a number of 32 bits
pub record IsBitNumber (digits : List ℕ) (number : ℕ) : Type 0 where
  pub some : 1 ≤ length digits
  pub all : list_all (λ byte. is_digit byte 10) digits ≡ true
  pub is : number ≡ number_of 10 digits
  pub small : number < 2 ^ 32

-- The text is the address of these bits: nothing for bit 0, or a number or two in brackets, as `[3]` and `[15:0]`.
pub data IsAddress : (text : List ℕ) (high low : ℕ) → Type 0 where
  no_address : IsAddress [] 0 0
  one_bit : {digits : List ℕ} {bit : ℕ} → IsBitNumber digits bit → IsAddress (91 ∷ (digits ++ 93 ∷ [])) bit bit
  bits : {upper lower : List ℕ} {high low : ℕ} → IsBitNumber upper high → IsBitNumber lower low → low ≤ high → IsAddress (91 ∷ ((upper ++ 58 ∷ lower) ++ 93 ∷ [])) high low

-- ---- the value

-- The word writes this value: in decimal digits, as `5`, or in a base behind a width, as `4'b0101`. It has at most 128 bits, and no more than
-- its width.
pub data IsLiteral : (word : List ℕ) (value : ℕ) → Type 0 where
  decimal : {digits : List ℕ} → is_decimal digits ≡ true → number_of 10 digits < 2 ^ 128 → IsLiteral digits (number_of 10 digits)
  based : (width digits : List ℕ) (letter : ℕ) {base : Base} → is_decimal width ≡ true → 1 ≤ number_of 10 width → number_of 10 width ≤ 128
      → base_of letter ≡ Some base → is_number (radix base) digits ≡ true → number_of (radix base) digits < 2 ^ number_of 10 width
      → IsLiteral (width ++ 39 ∷ letter ∷ digits) (number_of (radix base) digits)

-- The text gives this value to so many bits: nothing gives 1, else a `=` stands before a value that fits them.
pub data IsValue (width : ℕ) : (text : List ℕ) (value : ℕ) → Type 0 where
  no_value : IsValue width [] 1
  value_is : (before behind : List ℕ) {word : List ℕ} {value : ℕ} → AreBlanks before → AreBlanks behind → IsLiteral word value → value < 2 ^ width
      → IsValue width (before ++ 61 ∷ (behind ++ word)) value

-- ---- what may follow

-- nothing, or any bytes behind a `#`
pub data IsComment : List ℕ → Type 0 where
  no_comment : IsComment []
  comment : {text : List ℕ} → IsComment (35 ∷ text)

-- the byte does not end an annotation
abbrev pub is_annotation : ℕ → Bool
is_annotation byte = not (byte == 125)

-- an annotation, if there is one, in braces, and a comment
pub data IsTail : List ℕ → Type 0 where
  bare : (blanks : List ℕ) {last : List ℕ} → AreBlanks blanks → IsComment last → IsTail (blanks ++ last)
  annotated : (before annotation behind : List ℕ) {last : List ℕ} → AreBlanks before → list_all is_annotation annotation ≡ true → AreBlanks behind → IsComment last
      → IsTail (before ++ 123 ∷ (annotation ++ 125 ∷ (behind ++ last)))

-- ---- a line, and all lines

-- the parts of a line that has a feature
pub record FeatureParts : Type 0 where
  pub blanks : List ℕ
  pub name : List ℕ
  pub address : List ℕ
  pub value : List ℕ
  pub tail : List ℕ

abbrev pub line_text : FeatureParts → List ℕ
line_text parts = parts.blanks ++ (parts.name ++ (parts.address ++ (parts.value ++ parts.tail)))

-- These parts give this feature.
pub record Give (parts : FeatureParts) (feature : Feature) : Type 0 where
  pub blanks : AreBlanks parts.blanks
  pub name_is : feature.name ≡ parts.name
  pub names : is_feature parts.name ≡ true
  pub address : IsAddress parts.address feature.high feature.low
  pub value : IsValue (width_of feature.high feature.low) parts.value feature.value
  pub tail : IsTail parts.tail

-- A line of this number says one feature, or nothing.
pub data Says (number : ℕ) : (line : List ℕ) → List Feature → Type 0 where
  nothing : {line : List ℕ} → IsTail line → Says number line []
  says : {parts : FeatureParts} {feature : Feature} → Give parts feature → feature.line ≡ number → Says number (line_text parts) (feature ∷ [])

-- These lines, of which the first has this number, say these features, in their order.
pub data SpellsFrom : (number : ℕ) (lines : List (List ℕ)) → List Feature → Type 0 where
  ends : {number : ℕ} → SpellsFrom number [] []
  goes_on : {number : ℕ} {line : List ℕ} {lines : List (List ℕ)} {first rest : List Feature} → Says number line first → SpellsFrom (number + 1) lines rest
      → SpellsFrom number (line ∷ lines) (first ++ rest)

abbrev pub SpellsFasm : (lines : List (List ℕ)) → List Feature → Type 0
SpellsFasm lines features = SpellsFrom 1 lines features

-- ---- what these definitions and the judge of lines have to do with one another

-- A line says something exactly where it is not refused. So a text spells features exactly where no line of it is refused, and then one list of
-- them.
pub record LinesAreTheirParts : Type 0 where
  pub line : (before : List (List ℕ)) (line : List ℕ) → (fasm_judge before line ≡ None) ↔ ((features : List Feature) × Says (length before + 1) line features)
  pub text : (lines : List (List ℕ)) → IsFine fasm_judge lines ↔ ((features : List Feature) × SpellsFasm lines features)
  pub once : (lines : List (List ℕ)) (first second : List Feature) → SpellsFasm lines first → SpellsFasm lines second → first ≡ second
