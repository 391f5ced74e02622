-- A line that is made of parts is read as what they give.
use Rattle.std.proofs.Common.{◌≡◌, ℕ, ◌<◌, ◌≤◌, ◌^◌, Bool, true, false, cond, not, eqb, ltb, leb, min, Option, Some, None, Ok, Err, List, [], ◌∷◌, ◌++◌, ◌||◌, length, refl, sym, ap, ◌∙◌, arith, inl, inr, subst, ◌⊎◌, append_assoc, append-nil, lt_of_lt_of_le, lit<}
use Rattle.std.specs.Prelude.{ok_or, slice_index}
use Rattle.std.specs.List.{list_all, list_any}
use Rattle.std.specs.Char.{digit_value, is_digit}
use Rattle.std.proofs.lemmas.Bool.{cases_Bool, cases_lt, lt-ltb, le-ltb, le-leb, ltb-true, eqb-true, and_parts, and_from, or_left}
use Rattle.std.proofs.lemmas.Bool.Decides.{nat_tests}
use Rattle.std.proofs.lemmas.List.Folds.{list_all-append}
use Rattle.std.proofs.lemmas.Str.Parse.{digit_from_value}
use Rattle.fab_base.specs.declared.words.Reason.{Reason}
use Rattle.fab_base.specs.declared.words.Reason.TheVariants as reasons
use Rattle.fab_base.specs.declared.problem.Problem.TheVariants as problems
use Rattle.fab_lines.specs.Numbers.{capped}
use Rattle.fab_lines.specs.Names.{is_of_name}
use Rattle.fab_lines.specs.Parts.{is_blank}
use Rattle.fab_fasm.specs.declared.feature.Feature.{Feature}
use Rattle.fab_fasm.specs.declared.numbers.Base.{Base}
use Rattle.fab_fasm.specs.declared.numbers.Base.TheVariants as bases
use Rattle.fab_fasm.specs.Numbers.{number_of, radix, is_of_number, is_decimal}
use Rattle.fab_fasm.specs.Parts.{TwoParts, Addressed, after_byte, unblanked, has_return, parted, run, is_of_feature, is_feature, address_number, address_of, address_at, both_ends, numbers_of, opened, closed, tail_fault, width_of}
use Rattle.fab_fasm.specs.Values.{Literal, Valued, is_of_value, base_of, literal_of, literal_with, sized_literal, based_literal, written_width, fits, fitting, written_value, value_at, with_value, bits_limit, number_or_limit}
use Rattle.fab_fasm.specs.Fasm.{ended, valued, with_number, with_address, feature_line, nothing_said, line_of_text, line_of, refusal_of, said}
use Rattle.fab_fasm.specs.Spelled.{IsBitNumber, IsAddress, no_address, one_bit, bits, IsLiteral, decimal, based, IsValue, no_value, value_is, IsComment, no_comment, comment, IsTail, bare, annotated, FeatureParts, line_text, Give, Says, nothing, says}
use Rattle.fab_fasm.proofs.Cutting.{differs, list_all_weaker, parted_at, parted_none}
use Rattle.fab_fasm.proofs.FeatureWords.{feature_bytes, feature_no_blank, feature_some}
use Rattle.fab_fasm.proofs.Fronts.{begins_with, begins_weaker, begins_behind, comment_full, blanks_passed, is_full, full_stays, run_before, none_after, begins_tail, tail_begins, tail_right, is_plain, plain_passed, blanks_plain, tail_unreturned}
use Rattle.fab_fasm.proofs.Numerals.{small_fits}
use Rattle.fab_fasm.proofs.Powers.{power_more}

-- ---- digits

least_base : (base : Base) → radix base ≤ 16
least_base bases.Binary = omega arith
least_base bases.Octal = omega arith
least_base bases.Decimal = omega arith
least_base bases.Hexadecimal = omega arith

-- a digit is a byte of a name
digit_of_name : (radix byte : ℕ) → radix ≤ 36 → is_digit byte radix ≡ true → is_of_name byte ≡ true
digit_of_name radix byte low is =
    let below : digit_value byte < radix = ltb-true (digit_value byte) radix is in
    let small : digit_value byte < 36 = omega (arith, below, low) in
    elim (cases_lt byte 48) [
      | inl a ↦ absurd (let large : digit_value byte ≡ 36 = rw (lt-ltb byte 48 a) refl in omega (arith, small, large))
      | inr a ↦ elim (cases_lt byte 58) [
        | inl b ↦ grind (arith, nat_tests)
        | inr b ↦ elim (cases_lt byte 65) [
          | inl c ↦ absurd (let large : digit_value byte ≡ 36 = rw (le-ltb byte 48 a, le-ltb byte 58 b, lt-ltb byte 65 c) refl in omega (arith, small, large))
          | inr c ↦ elim (cases_lt byte 91) [
            | inl d ↦ grind (arith, nat_tests)
            | inr d ↦ elim (cases_lt byte 97) [
              | inl e ↦ absurd (let large : digit_value byte ≡ 36 = rw (le-ltb byte 48 a, le-ltb byte 58 b, le-ltb byte 65 c, le-ltb byte 91 d, lt-ltb byte 97 e) refl in omega (arith, small, large))
              | inr e ↦ elim (cases_lt byte 123) [
                | inl f ↦ grind (arith, nat_tests)
                | inr f ↦ absurd (let large : digit_value byte ≡ 36 = rw (le-ltb byte 48 a, le-ltb byte 58 b, le-ltb byte 65 c, le-ltb byte 91 d, le-ltb byte 97 e, le-ltb byte 123 f) refl in omega (arith, small, large))
              ]
            ]
          ]
        ]
      ]
    ]

-- a decimal digit or `_`
decimal_cases : (byte : ℕ) → is_of_number 10 byte ≡ true → ((48 ≤ byte) × (byte ≤ 57)) ⊎ (byte ≡ 95)
decimal_cases byte is = elim (cases_Bool (is_digit byte 10)) [
  | inl digit ↦ inl (let range = digit_from_value byte (ltb-true (digit_value byte) 10 digit) in (range.0, range.1))
  | inr other ↦ inr (eqb-true byte 95 (rw other at is))
]

of_number_of_name : (radix byte : ℕ) → radix ≤ 36 → is_of_number radix byte ≡ true → is_of_name byte ≡ true
of_number_of_name radix byte low is = elim (cases_Bool (is_digit byte radix)) [
  | inl digit ↦ digit_of_name radix byte low digit
  | inr other ↦ (let line : byte ≡ 95 = eqb-true byte 95 (rw other at is) in rw line refl)
]

of_value : (byte : ℕ) → is_of_name byte ≡ true → is_of_value byte ≡ true
of_value byte is = or_left (is_of_name byte) (eqb byte 39) is

-- the digits and `_` of a number differ from other signs
decimal_differs : (sign byte : ℕ) → sign ≡ 39 → is_of_number 10 byte ≡ true → differs sign byte ≡ true
decimal_differs sign byte quote is = elim (decimal_cases byte is) [
  | inl range ↦ grind (arith, nat_tests)
  | inr line ↦ grind (arith, nat_tests)
]

digit_differs : (sign byte : ℕ) → 57 < sign → is_digit byte 10 ≡ true → differs sign byte ≡ true
digit_differs sign byte above is =
    let range = digit_from_value byte (ltb-true (digit_value byte) 10 is) in
    let less : byte ≤ 57 = range.1 in
    grind (arith, nat_tests)

digit_plain : (byte : ℕ) → is_digit byte 10 ≡ true → is_plain byte ≡ true
digit_plain byte is =
    let range = digit_from_value byte (ltb-true (digit_value byte) 10 is) in
    let low : 48 ≤ byte = range.0 in
    let high : byte ≤ 57 = range.1 in
    grind (arith, nat_tests)

feature_plain : (byte : ℕ) → is_of_feature byte ≡ true → is_plain byte ≡ true
feature_plain byte is = grind (arith, nat_tests)

value_plain : (byte : ℕ) → is_of_value byte ≡ true → is_plain byte ≡ true
value_plain byte is = grind (arith, nat_tests)

-- ---- the address

number_read : (digits : List ℕ) (number : ℕ) → IsBitNumber digits number → address_number digits ≡ Some number
unfolding address_number
number_read digits number is =
    let some : ltb 0 (length digits) ≡ true = lt-ltb 0 (length digits) (omega (arith, is.some)) in
    let small : ltb (number_of 10 digits) (2 ^ 32) ≡ true = lt-ltb (number_of 10 digits) (2 ^ 32) (subst (λ (n : ℕ). n < 2 ^ 32) is.is is.small) in
    ap (λ b. cond b (Some (number_of 10 digits)) None) (and_from _ _ (and_from _ _ some is.all) small) ∙ ap (λ n. Some n) (sym is.is)

ends_read : (upper lower : List ℕ) (high low : ℕ) → IsBitNumber upper high → IsBitNumber lower low → low ≤ high → numbers_of (upper, lower) ≡ Some (high, low)
ends_read upper lower high low is_high is_low ordered =
    let first = number_read upper high is_high in
    let second = number_read lower low is_low in
    let less : leb low high ≡ true = le-leb low high ordered in
    rw (first, second, less) refl

digits_differ : (sign : ℕ) (digits : List ℕ) → 57 < sign → list_all (λ byte. is_digit byte 10) digits ≡ true → list_all (differs sign) digits ≡ true
digits_differ sign digits above all = list_all_weaker (λ byte. is_digit byte 10) (differs sign) digits (λ byte is. digit_differs sign byte above is) all

one_read : (digits : List ℕ) (bit : ℕ) → IsBitNumber digits bit → address_of digits ≡ Some (bit, bit)
unfolding address_of
one_read digits bit is =
    ap (λ (o : Option TwoParts). numbers_of (both_ends digits o)) (parted_none 58 digits (digits_differ 58 digits (lit< tt) is.all)) ∙ ends_read digits digits bit bit is is (omega arith)

two_read : (upper lower : List ℕ) (high low : ℕ) → IsBitNumber upper high → IsBitNumber lower low → low ≤ high → address_of (upper ++ 58 ∷ lower) ≡ Some (high, low)
unfolding address_of
two_read upper lower high low is_high is_low ordered =
    ap (λ (o : Option TwoParts). numbers_of (both_ends (upper ++ 58 ∷ lower) o)) (parted_at 58 upper lower (digits_differ 58 upper (lit< tt) is_high.all))
    ∙ ends_read upper lower high low is_high is_low ordered

bracketed : (inner rest : List ℕ) (high low : ℕ) → list_all (differs 93) inner ≡ true → address_of inner ≡ Some (high, low)
    → address_at ((91 ∷ (inner ++ 93 ∷ [])) ++ rest) ≡ Some (record { high = high; low = low; reason = reasons.Address; rest = rest })
unfolding address_at after_byte
bracketed inner rest high low clean is =
    ap (λ (t : List ℕ). closed (parted 93 t)) (append_assoc inner (93 ∷ []) rest) ∙ ap closed (parted_at 93 inner rest clean) ∙ rw is refl

two_differ : (upper lower : List ℕ) (high low : ℕ) → IsBitNumber upper high → IsBitNumber lower low → list_all (differs 93) (upper ++ 58 ∷ lower) ≡ true
two_differ upper lower high low is_high is_low =
    list_all-append (differs 93) upper (58 ∷ lower)
    ∙ and_from (list_all (differs 93) upper) (list_all (differs 93) lower) (digits_differ 93 upper (lit< tt) is_high.all) (digits_differ 93 lower (lit< tt) is_low.all)

-- what an address is read as, for some reason where something follows that cannot
record AddressRead (text rest : List ℕ) (high low : ℕ) : Type 0 where
  reason : Reason
  read : address_at (text ++ rest) ≡ Some (record { high = high; low = low; reason = reason; rest = rest })

nothing_opened : (rest : List ℕ) → after_byte 91 rest ≡ None → address_at rest ≡ Some (record { high = 0; low = 0; reason = reasons.Feature; rest = rest })
unfolding address_at
nothing_opened rest none = ap (opened rest) none

address_read : (text rest : List ℕ) (high low : ℕ) → IsAddress text high low → begins_with (differs 91) rest ≡ true → AddressRead text rest high low
address_read text rest high low no_address other = record { reason = reasons.Feature; read = nothing_opened rest (none_after 91 rest other) }
address_read text rest high low (one_bit {digits} {bit} is) other =
    record { reason = reasons.Address; read = bracketed digits rest bit bit (digits_differ 93 digits (lit< tt) is.all) (one_read digits bit is) }
address_read text rest high low (bits {upper} {lower} {high = h} {low = l} is_high is_low ordered) other =
    record { reason = reasons.Address; read = bracketed (upper ++ 58 ∷ lower) rest h l (two_differ upper lower h l is_high is_low) (two_read upper lower h l is_high is_low ordered) }

-- ---- the value

decimal_all : (digits : List ℕ) → is_decimal digits ≡ true → list_all (is_of_number 10) digits ≡ true
decimal_all digits is = (and_parts (is_digit (slice_index digits 0) 10) (list_all (is_of_number 10) digits) is).1

-- it begins with a digit
decimal_full : (digits rest : List ℕ) → is_decimal digits ≡ true → begins_with is_full (digits ++ rest) ≡ true
decimal_full [] rest is = absurd (let both = and_parts (is_digit 0 10) true is in let never : is_digit 0 10 ≡ true = both.0 in cc)
decimal_full (first ∷ digits) rest is =
    let digit : is_digit first 10 ≡ true = (and_parts (is_digit first 10) (list_all (is_of_number 10) (first ∷ digits)) is).0 in
    let range = digit_from_value first (ltb-true (digit_value first) 10 digit) in
    let low : 48 ≤ first = range.0 in
    grind (arith, nat_tests)

decimal_of_value : (digits : List ℕ) → is_decimal digits ≡ true → list_all is_of_value digits ≡ true
decimal_of_value digits is =
    list_all_weaker (is_of_number 10) is_of_value digits (λ byte of. of_value byte (of_number_of_name 10 byte (omega arith) of)) (decimal_all digits is)

decimal_unquoted : (digits : List ℕ) → is_decimal digits ≡ true → list_all (differs 39) digits ≡ true
decimal_unquoted digits is = list_all_weaker (is_of_number 10) (differs 39) digits (λ byte of. decimal_differs 39 byte refl of) (decimal_all digits is)

-- a letter of a base is a byte of a value
letter_of_value : (letter : ℕ) (base : Base) → base_of letter ≡ Some base → is_of_value letter ≡ true
letter_of_value letter base is = elim (cases_Bool (eqb letter 98)) [
  | inl b ↦ (let same = eqb-true letter 98 b in rw same refl)
  | inr no_b ↦ elim (cases_Bool (eqb letter 111)) [
    | inl o ↦ (let same = eqb-true letter 111 o in rw same refl)
    | inr no_o ↦ elim (cases_Bool (eqb letter 100)) [
      | inl d ↦ (let same = eqb-true letter 100 d in rw same refl)
      | inr no_d ↦ elim (cases_Bool (eqb letter 104)) [
        | inl h ↦ (let same = eqb-true letter 104 h in rw same refl)
        | inr no_h ↦ absurd (let none : None ≡ Some base = sym (rw (no_b, no_o, no_d, no_h) refl) ∙ is in cc)
      ]
    ]
  ]
]

-- what is read of a word, where it fits so many bits
record LiteralRead (word : List ℕ) (value : ℕ) : Type 0 where
  literal : Literal
  full : begins_with is_full word ≡ true
  of_value : list_all is_of_value word ≡ true
  read : literal_of word ≡ Some literal
  fits : (width : ℕ) → value < 2 ^ width → fits literal width ≡ true
  number : number_or_limit literal ≡ Ok value

small_width : (width : ℕ) → width ≤ 128 → capped width ≡ width
small_width width narrow = omega arith

literal_read : (word : List ℕ) (value : ℕ) → IsLiteral word value → LiteralRead word value
unfolding literal_of sized_literal
literal_read word value (decimal {digits} is small_value) = record {
  literal = record { width = None; base = bases.Decimal; digits = digits };
  full = subst (λ (t : List ℕ). begins_with is_full t ≡ true) (append-nil digits) (decimal_full digits [] is);
  of_value = decimal_of_value digits is;
  read = ap (literal_with digits) (parted_none 39 digits (decimal_unquoted digits is)) ∙ ap (λ b. cond b (Some (let l : Literal = record { width = None; base = bases.Decimal; digits = digits } in l)) None) is;
  fits = λ width below. lt-ltb (number_of 10 digits) (2 ^ width) below;
  number = ap (λ (o : Option ℕ). ok_or o (bits_limit 129)) (small_fits (number_of 10 digits) small_value);
}
literal_read word value (based width digits letter {base} is some narrow base_is number_is below) =
    let number = number_of (radix base) digits in
    let wide = number_of 10 width in
    let literal : Literal = record { width = Some wide; base = base; digits = digits } in
    let positive : ltb 0 wide ≡ true = lt-ltb 0 wide (omega (arith, some)) in
    let width_read : written_width width ≡ Some wide =
    ap (λ b. cond b (Some (capped wide)) None) (and_from _ _ is positive) ∙ ap (λ n. Some n) (small_width wide narrow) in
    let digits_of_value = list_all_weaker (is_of_number (radix base)) is_of_value digits
    (λ byte of. of_value byte (of_number_of_name (radix base) byte (omega (arith, least_base base)) of))
    (and_parts (list_any (λ byte. is_digit byte (radix base)) digits) (list_all (is_of_number (radix base)) digits) number_is).1 in
    let letter_is : is_of_value letter ≡ true = letter_of_value letter base base_is in
    let limit : ltb 128 wide ≡ false = le-ltb 128 wide narrow in
    record {
      literal = literal;
      full = decimal_full width (39 ∷ letter ∷ digits) is;
      of_value = list_all-append is_of_value width (39 ∷ letter ∷ digits)
          ∙ and_from (list_all is_of_value width) (list_all is_of_value (letter ∷ digits)) (decimal_of_value width is)
          (and_from (is_of_value letter) (list_all is_of_value digits) letter_is digits_of_value);
      read = ap (literal_with (width ++ 39 ∷ letter ∷ digits)) (parted_at 39 width (letter ∷ digits) (decimal_unquoted width is))
          ∙ ap (λ (w : Option ℕ). based_literal w (base_of letter) digits) width_read
          ∙ ap (λ (b : Option Base). based_literal (Some wide) b digits) base_is
          ∙ ap (λ b. cond b (Some literal) None) number_is;
      fits = λ count fit. fits_both number wide count below fit;
      number = rw limit (ap (λ (o : Option ℕ). ok_or o (bits_limit 129)) (small_fits number (lt_of_lt_of_le below (power_more wide 128 narrow))));
    }
  where
    fits_both : (number wide count : ℕ) → number < 2 ^ wide → number < 2 ^ count → ltb number (2 ^ min wide count) ≡ true
    fits_both number wide count first second = elim (cases_lt wide count) [
      | inl less ↦ (let least : min wide count ≡ wide = omega (arith, less) in ap (λ n. ltb number (2 ^ n)) least ∙ lt-ltb number (2 ^ wide) first)
      | inr more ↦ (let least : min wide count ≡ count = omega (arith, more) in ap (λ n. ltb number (2 ^ n)) least ∙ lt-ltb number (2 ^ count) second)
    ]

-- a value in front of what may follow it
begins_value : ℕ → Bool
begins_value byte = begins_tail byte || eqb byte 61

tail_ends_value : (byte : ℕ) → begins_tail byte ≡ true → not (is_of_value byte) ≡ true
tail_ends_value byte is = grind (arith, nat_tests)

tail_no_equals : (byte : ℕ) → begins_tail byte ≡ true → is_blank byte ≡ false → differs 61 byte ≡ true
tail_no_equals byte is full = grind (arith, nat_tests)

-- without its blanks no tail begins with `=`
tail_unequal : (tail : List ℕ) → IsTail tail → after_byte 61 (unblanked tail) ≡ None
unfolding after_byte
tail_unequal tail (bare blanks {last} all is) = ap (after_byte 61) (blanks_passed blanks last all ∙ comment_full last is) ∙ comment_unequal last is
  where
    comment_unequal : (text : List ℕ) → IsComment text → after_byte 61 text ≡ None
    comment_unequal text no_comment = refl
    comment_unequal text (comment {text = rest}) = refl
tail_unequal tail (annotated before annotation behind {last} first inside second is) =
    ap (after_byte 61) (blanks_passed before (123 ∷ (annotation ++ 125 ∷ (behind ++ last))) first ∙ full_stays (123 ∷ (annotation ++ 125 ∷ (behind ++ last))) refl)

equals_after : (rest : List ℕ) → after_byte 61 (61 ∷ rest) ≡ Some rest
unfolding after_byte
equals_after rest = refl

word_full : (word tail : List ℕ) → begins_with is_full word ≡ true → (literal : Literal) → literal_of word ≡ Some literal → begins_with is_full (word ++ tail) ≡ true
unfolding literal_of parted
word_full [] tail full literal some = absurd (let none : None ≡ Some literal = some in cc)
word_full (first ∷ word) tail full literal some = full

value_read : (high low : ℕ) (reason : Reason) (text tail : List ℕ) (value : ℕ) → IsValue (width_of high low) text value → IsTail tail
    → valued (value_at (record { high = high; low = low; reason = reason; rest = text ++ tail })) ≡ Ok value
unfolding value_at written_value
value_read high low reason text tail value no_value is_tail =
    let address : Addressed = record { high = high; low = low; reason = reason; rest = tail } in
    ap (λ (o : Option (List ℕ)). valued (with_value address o)) (tail_unequal tail is_tail)
    ∙ ap (λ (f : Option Reason). ended f (Ok 1)) (tail_right reason tail is_tail)
value_read high low reason text tail value (value_is before behind {word} {value = v} first second is fits) is_tail =
    let width = width_of high low in
    let whole : List ℕ = before ++ 61 ∷ (behind ++ word) in
    let address : Addressed = record { high = high; low = low; reason = reason; rest = whole ++ tail } in
    let read = literal_read word v is in
    let rest : List ℕ = (behind ++ word) ++ tail in
    let opened : after_byte 61 (unblanked (whole ++ tail)) ≡ Some rest =
    ap (λ (t : List ℕ). after_byte 61 (unblanked t)) (append_assoc before (61 ∷ (behind ++ word)) tail)
    ∙ ap (after_byte 61) (blanks_passed before (61 ∷ rest) first ∙ full_stays (61 ∷ rest) refl) ∙ equals_after rest in
    let word_begins : begins_with is_full (word ++ tail) ≡ true = word_full word tail read.full read.literal read.read in
    let start : unblanked rest ≡ word ++ tail = ap unblanked (append_assoc behind word tail) ∙ blanks_passed behind (word ++ tail) second ∙ full_stays (word ++ tail) word_begins in
    let cut : run is_of_value (word ++ tail) ≡ (word, tail) =
    run_before is_of_value word tail read.of_value (begins_weaker begins_tail (λ byte. not (is_of_value byte)) tail tail_ends_value (tail_begins tail is_tail)) in
    ap (λ (o : Option (List ℕ)). valued (with_value address o)) opened
    ∙ ap (λ (t : List ℕ). valued (written_value width t)) start
    ∙ ap (λ (p : TwoParts). valued (fitting width p.1 (literal_of p.0))) cut
    ∙ ap (λ (o : Option Literal). valued (fitting width tail o)) read.read
    ∙ ap (λ b. valued (cond b (Some (let w : Valued = record { value = number_or_limit read.literal; reason = reasons.Value; rest = tail } in w)) None)) (read.fits width fits)
    ∙ ap (λ (f : Option Reason). ended f (number_or_limit read.literal)) (tail_right reasons.Value tail is_tail)
    ∙ read.number

-- ---- the line

line_of_run : (line : ℕ) (text : List ℕ) (parts : TwoParts) → run is_of_feature text ≡ parts → eqb (length parts.0) 0 ≡ false → line_of_text line text ≡ feature_line line parts
line_of_run line text parts is some =
    ap (λ (p : TwoParts). cond (eqb (length p.0) 0) (nothing_said (tail_fault reasons.Feature text)) (feature_line line p)) is
    ∙ ap (λ b. cond b (nothing_said (tail_fault reasons.Feature text)) (feature_line line parts)) some

digits_plain : (digits : List ℕ) → list_all (λ byte. is_digit byte 10) digits ≡ true → list_all is_plain digits ≡ true
digits_plain digits all = list_all_weaker (λ byte. is_digit byte 10) is_plain digits digit_plain all

both_plain : (front rest : List ℕ) → list_all is_plain front ≡ true → list_all is_plain rest ≡ true → list_all is_plain (front ++ rest) ≡ true
both_plain front rest first second = list_all-append is_plain front rest ∙ and_from (list_all is_plain front) (list_all is_plain rest) first second

-- what follows the names
value_begins : (width : ℕ) (text tail : List ℕ) (value : ℕ) → IsValue width text value → IsTail tail → begins_with begins_value (text ++ tail) ≡ true
unfolding begins_value
value_begins width text tail value no_value is_tail = begins_weaker begins_tail begins_value tail (λ byte is. or_left (begins_tail byte) (eqb byte 61) is) (tail_begins tail is_tail)
value_begins width text tail value (value_is before behind {word} {value = v} first second is fits) is_tail =
    let split = append_assoc before (61 ∷ (behind ++ word)) tail in
    subst (λ (t : List ℕ). begins_with begins_value t ≡ true) (sym split)
    (begins_behind begins_value before (61 ∷ ((behind ++ word) ++ tail)) (list_all_weaker is_blank begins_value before (λ byte blank. or_left (begins_tail byte) (eqb byte 61) (or_left (is_blank byte) (eqb byte 123 || eqb byte 35) blank)) first) refl)

value_unopened : (byte : ℕ) → begins_value byte ≡ true → differs 91 byte ≡ true
unfolding begins_value
value_unopened byte is = grind (arith, nat_tests)

value_ends_names : (byte : ℕ) → begins_value byte ≡ true → not (is_of_feature byte) ≡ true
unfolding begins_value
value_ends_names byte is = grind (arith, nat_tests)

address_ends_names : (text rest : List ℕ) (high low : ℕ) → IsAddress text high low → begins_with begins_value rest ≡ true → begins_with (λ byte. not (is_of_feature byte)) (text ++ rest) ≡ true
address_ends_names text rest high low no_address is = begins_weaker begins_value (λ byte. not (is_of_feature byte)) rest value_ends_names is
address_ends_names text rest high low (one_bit {digits} {bit} number) is = refl
address_ends_names text rest high low (bits {upper} {lower} {high = h} {low = l} is_high is_low ordered) is = refl

address_plain : (text : List ℕ) (high low : ℕ) → IsAddress text high low → list_all is_plain text ≡ true
address_plain text high low no_address = refl
address_plain text high low (one_bit {digits} {bit} is) = both_plain digits (93 ∷ []) (digits_plain digits is.all) refl
address_plain text high low (bits {upper} {lower} {high = h} {low = l} is_high is_low ordered) =
    both_plain (upper ++ 58 ∷ lower) (93 ∷ []) (both_plain upper (58 ∷ lower) (digits_plain upper is_high.all) (digits_plain lower is_low.all)) refl

value_text_plain : (width : ℕ) (text : List ℕ) (value : ℕ) → IsValue width text value → list_all is_plain text ≡ true
value_text_plain width text value no_value = refl
value_text_plain width text value (value_is before behind {word} {value = v} first second is fits) =
    both_plain before (61 ∷ (behind ++ word)) (blanks_plain before first)
    (both_plain behind word (blanks_plain behind second) (list_all_weaker is_of_value is_plain word value_plain (literal_read word v is).of_value))

module _ (parts : FeatureParts) (feature : Feature) (give : Give parts feature) where
  line_unreturned : has_return false (line_text parts) ≡ false
  line_unreturned =
      plain_passed parts.blanks _ (blanks_plain parts.blanks give.blanks)
      ∙ plain_passed parts.name _ (list_all_weaker is_of_feature is_plain parts.name feature_plain (feature_bytes parts.name give.names))
      ∙ plain_passed parts.address _ (address_plain parts.address feature.high feature.low give.address)
      ∙ plain_passed parts.value _ (value_text_plain (width_of feature.high feature.low) parts.value feature.value give.value)
      ∙ tail_unreturned parts.tail give.tail

  abbrev behind_names : List ℕ
  behind_names = parts.address ++ (parts.value ++ parts.tail)

  line_start : unblanked (line_text parts) ≡ parts.name ++ behind_names
  line_start = blanks_passed parts.blanks (parts.name ++ behind_names) give.blanks ∙ full_stays (parts.name ++ behind_names) (name_full parts.name behind_names give.names)
    where
      name_full : (name rest : List ℕ) → is_feature name ≡ true → begins_with is_full (name ++ rest) ≡ true
      name_full [] rest named = absurd (let never : false ≡ true = named in cc)
      name_full (first ∷ name) rest named =
          let blank : is_blank first ≡ false = feature_no_blank first (and_parts (is_of_feature first) (list_all is_of_feature name) (feature_bytes (first ∷ name) named)).0 in
          rw blank refl

  names_cut : run is_of_feature (parts.name ++ behind_names) ≡ (parts.name, behind_names)
  names_cut =
      run_before is_of_feature parts.name behind_names (feature_bytes parts.name give.names)
      (address_ends_names parts.address (parts.value ++ parts.tail) feature.high feature.low give.address
      (value_begins (width_of feature.high feature.low) parts.value parts.tail feature.value give.value give.tail))

  parts_read : (number : ℕ) → line_of number (line_text parts) ≡ Ok (Some (record feature { line = number }))
  unfolding line_of feature_line
  parts_read number =
      let address = address_read parts.address (parts.value ++ parts.tail) feature.high feature.low give.address
      (begins_weaker begins_value (differs 91) (parts.value ++ parts.tail) value_unopened (value_begins (width_of feature.high feature.low) parts.value parts.tail feature.value give.value give.tail)) in
      let value = value_read feature.high feature.low address.reason parts.value parts.tail feature.value give.value give.tail in
      ap (λ b. cond b (Err (problems.Malformed reasons.Feature)) (line_of_text number (unblanked (line_text parts)))) line_unreturned
      ∙ ap (line_of_text number) line_start
      ∙ line_of_run number (parts.name ++ behind_names) (parts.name, behind_names) names_cut (feature_some parts.name give.names)
      ∙ ap (λ b. cond b (with_address number parts.name (address_at behind_names)) (Err (problems.Malformed reasons.Feature))) give.names
      ∙ ap (with_address number parts.name) address.read
      ∙ ap (λ v. with_number number parts.name (record { high = feature.high; low = feature.low; reason = address.reason; rest = parts.value ++ parts.tail }) v) value
      ∙ ap (λ (n : List ℕ). Ok (Some (let f : Feature = record { line = number; name = n; high = feature.high; low = feature.low; value = feature.value } in f))) (sym give.name_is)

-- a line without a feature
record TailStart (line : List ℕ) : Type 0 where
  is_tail : IsTail (unblanked line)
  ends : begins_with (λ byte. not (is_of_feature byte)) (unblanked line) ≡ true

tail_start : (line : List ℕ) → IsTail line → TailStart line
tail_start line (bare blanks {last} all is) =
    let start : unblanked (blanks ++ last) ≡ last = blanks_passed blanks last all ∙ comment_full last is in
    record {
      is_tail = subst IsTail (sym start) (bare [] refl is);
      ends = ap (begins_with (λ byte. not (is_of_feature byte))) start ∙ comment_ends last is;
    }
  where
    comment_ends : (text : List ℕ) → IsComment text → begins_with (λ byte. not (is_of_feature byte)) text ≡ true
    comment_ends text no_comment = refl
    comment_ends text (comment {text = rest}) = refl
tail_start line (annotated before annotation behind {last} first inside second is) =
    let more : List ℕ = annotation ++ 125 ∷ (behind ++ last) in
    let start : unblanked (before ++ 123 ∷ more) ≡ 123 ∷ more = blanks_passed before (123 ∷ more) first ∙ full_stays (123 ∷ more) refl in
    record {
      is_tail = subst IsTail (sym start) (annotated [] annotation behind refl inside second is);
      ends = ap (begins_with (λ byte. not (is_of_feature byte))) start;
    }

nothing_first : (number : ℕ) (line : List ℕ) → IsTail line → line_of_text number (unblanked line) ≡ Ok None
nothing_first number line is =
    let start = tail_start line is in
    let text = unblanked line in
    ap (λ (p : TwoParts). cond (eqb (length p.0) 0) (nothing_said (tail_fault reasons.Feature text)) (feature_line number p)) (run_before is_of_feature [] text refl start.ends)
    ∙ ap nothing_said (tail_right reasons.Feature text start.is_tail)

tail_read : (number : ℕ) (line : List ℕ) → IsTail line → line_of number line ≡ Ok None
unfolding line_of
tail_read number line is =
    ap (λ b. cond b (Err (problems.Malformed reasons.Feature)) (line_of_text number (unblanked line))) (tail_unreturned line is)
    ∙ nothing_first number line is

-- what a line says is what is read of it
pub record IsRead (number : ℕ) (line : List ℕ) (features : List Feature) : Type 0 where
  pub taken : refusal_of (line_of number line) ≡ None
  pub said_is : said (line_of number line) ≡ features

pub says_read : (number : ℕ) (line : List ℕ) (features : List Feature) → Says number line features → IsRead number line features
says_read number line features (nothing {line = text} is) = record { taken = ap refusal_of (tail_read number text is); said_is = ap said (tail_read number text is) }
says_read number line features (says {parts} {feature} give same) =
    let read = parts_read parts feature give number in
    record { taken = ap refusal_of read; said_is = ap said read ∙ ap (λ n. record feature { line = n } ∷ []) (sym same) }
