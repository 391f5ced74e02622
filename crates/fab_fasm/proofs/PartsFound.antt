-- A line that is read is made of parts.
use Rattle.std.proofs.Common.{◌≡◌, ℕ, ◌+◌, ◌<◌, ◌≤◌, ◌^◌, Bool, true, false, cond, not, eqb, ltb, leb, min, Option, Some, None, Result, Ok, Err, List, [], ◌∷◌, ◌++◌, length, take, drop, get_or, refl, sym, ap, subst, ◌∙◌, arith, inl, inr, suc, append_assoc, lt_of_lt_of_le, take-append-drop}
use Rattle.std.specs.Prelude.{ok_or, option_map, option_and_then}
use Rattle.std.specs.List.{list_all, prefix_len}
use Rattle.std.specs.Char.{is_digit}
use Rattle.std.proofs.lemmas.Bool.{cases_Bool, ltb-true, ltb-false, leb-true, eqb-true, and_parts, and_from}
use Rattle.std.proofs.lemmas.List.{drop_more}
use Rattle.std.proofs.lemmas.List.Sums.{prefix_len_stops}
use Rattle.fab_base.specs.declared.words.Reason.{Reason}
use Rattle.fab_base.specs.declared.words.Reason.TheVariants as reasons
use Rattle.fab_base.specs.declared.problem.Problem.{Problem}
use Rattle.fab_base.specs.declared.problem.Problem.TheVariants as problems
use Rattle.fab_lines.specs.Numbers.{capped}
use Rattle.fab_lines.specs.Parts.{is_blank}
use Rattle.fab_fasm.specs.declared.feature.Feature.{Feature}
use Rattle.fab_fasm.specs.declared.numbers.Base.{Base}
use Rattle.fab_fasm.specs.declared.numbers.Base.TheVariants as bases
use Rattle.fab_fasm.specs.Numbers.{number_of, radix, is_number, is_decimal, small}
use Rattle.fab_fasm.specs.Parts.{TwoParts, TwoNumbers, Addressed, addressed, after_byte, unblanked, has_return, parted, run, run_length, is_of_feature, is_feature, is_over, not_over, annotated as annotated_fault, address_number, address_of, address_at, both_ends, numbers_of, in_order, opened, closed, tail_fault, width_of}
use Rattle.fab_fasm.specs.Values.{Literal, Valued, is_of_value, base_of, literal_of, literal_with, sized_literal, based_literal, written_width, fits, fitting, limited, written_value, value_at, with_value, bits_limit, number_or_limit}
use Rattle.fab_fasm.specs.Fasm.{ended, valued, with_number, with_address, feature_line, nothing_said, line_of_text, line_of, refusal_of, said}
use Rattle.fab_fasm.specs.Spelled.{AreBlanks, IsBitNumber, IsAddress, no_address, one_bit, bits, IsLiteral, decimal, based, IsValue, no_value, value_is, IsComment, no_comment, comment, IsTail, bare, annotated, FeatureParts, line_text, Give, Says, nothing, says}
use Rattle.fab_fasm.proofs.Cutting.{differs, no_blank}
use Rattle.fab_fasm.proofs.Powers.{power_more}

-- ---- answers that are something

some_is : {X : Type 0} (a b : X) → Some a ≡ Some b → a ≡ b
some_is a b e = cc

ok_is : {X E : Type 0} (a b : X) → (let r : Result X E = Ok a in r) ≡ Ok b → a ≡ b
ok_is a b e = cc

none_is : {X Y : Type 0} (a : X) → None ≡ Some a → Y
none_is a e = absurd cc

-- a step that gives something
then_gives : {A B : Type 0} (f : A → Option B) (o : Option A) (b : B) → option_and_then f o ≡ Some b → (a : A) × (o ≡ Some a) × (f a ≡ Some b)
then_gives f None b e = none_is b e
then_gives f (Some a) b e = (a, refl, e)

-- a test that lets something through
if_gives : {A : Type 0} (test : Bool) (a b : A) → cond test (Some a) None ≡ Some b → (test ≡ true) × (a ≡ b)
if_gives true a b e = (refl, some_is a b e)
if_gives false a b e = none_is b e

-- ---- cuts

record Blanked (text : List ℕ) : Type 0 where
  blanks : List ℕ
  all : AreBlanks blanks
  is : text ≡ blanks ++ unblanked text

blank_step : (first : ℕ) (text : List ℕ) → is_blank first ≡ true → unblanked (first ∷ text) ≡ unblanked text
unfolding unblanked
blank_step first text blank = rw blank refl

nothing_left : [] ≡ unblanked []
unfolding unblanked
nothing_left = refl

blanks_found : (text : List ℕ) → Blanked text
blanks_found [] = record { blanks = []; all = refl; is = nothing_left }
blanks_found (first ∷ text) = elim (cases_Bool (is_blank first)) [
  | inl blank ↦
      let more = blanks_found text in
      record {
        blanks = first ∷ more.blanks;
        all = and_from (is_blank first) (list_all is_blank more.blanks) blank more.all;
        is = ap (λ (t : List ℕ). first ∷ t) more.is ∙ ap (λ (t : List ℕ). (first ∷ more.blanks) ++ t) (sym (blank_step first text blank));
      }
  | inr full ↦ record { blanks = []; all = refl; is = sym (no_blank first text full) }
]

after_found : (byte : ℕ) (text rest : List ℕ) → after_byte byte text ≡ Some rest → text ≡ byte ∷ rest
unfolding after_byte
after_found byte [] rest e = none_is rest e
after_found byte (first ∷ text) rest e =
    let found = if_gives (eqb first byte) text rest e in
    ap (λ (b : ℕ). b ∷ text) (eqb-true first byte found.0) ∙ ap (λ (t : List ℕ). byte ∷ t) found.1

-- all bytes before the first that does not pass
prefix_passes : (test : ℕ → Bool) (text : List ℕ) → list_all test (take (prefix_len test text) text) ≡ true
prefix_passes test [] = refl
prefix_passes test (first ∷ text) = elim (cases_Bool (test first)) [
  | inl passes ↦
      let count : 1 + prefix_len test text ≡ suc (prefix_len test text) = omega arith in
      let whole : prefix_len test (first ∷ text) ≡ suc (prefix_len test text) = ap (λ b. cond b (1 + prefix_len test text) 0) passes ∙ count in
      ap (λ n. list_all test (take n (first ∷ text))) whole ∙ and_from (test first) (list_all test (take (prefix_len test text) text)) passes (prefix_passes test text)
  | inr stops ↦
      let none : prefix_len test (first ∷ text) ≡ 0 = ap (λ b. cond b (1 + prefix_len test text) 0) stops in
      ap (λ n. list_all test (take n (first ∷ text))) none
]

-- what stands round the first such byte
pub record IsParted (byte : ℕ) (text : List ℕ) (parts : TwoParts) : Type 0 where
  pub is : text ≡ parts.0 ++ byte ∷ parts.1
  pub first : list_all (differs byte) parts.0 ≡ true

pub parted_found : (byte : ℕ) (text : List ℕ) (parts : TwoParts) → parted byte text ≡ Some parts → IsParted byte text parts
unfolding parted
parted_found byte text parts e =
    let n = prefix_len (differs byte) text in
    let place = then_gives (λ (place : ℕ). let p : Option TwoParts = Some (take place text, drop (place + 1) text) in p) (cond (ltb n (length text)) (Some n) None) parts (mapped (cond (ltb n (length text)) (Some n) None) e) in
    let inside = if_gives (ltb n (length text)) n place.0 place.1 in
    let below : n < length text = ltb-true n (length text) inside.0 in
    let stop : differs byte (get_or text n 0) ≡ false = prefix_len_stops (differs byte) text 0 below in
    let byte_is : get_or text n 0 ≡ byte = eqb-true (get_or text n 0) byte (opposite (eqb (get_or text n 0) byte) stop) in
    let cut : text ≡ take n text ++ byte ∷ drop (n + 1) text =
    sym (take-append-drop n text) ∙ ap (λ (t : List ℕ). take n text ++ t) (drop_more text n 0 below) ∙ ap (λ (b : ℕ). take n text ++ b ∷ drop (n + 1) text) byte_is in
    let here : IsParted byte text (take n text, drop (n + 1) text) = record { is = cut; first = prefix_passes (differs byte) text } in
    subst (IsParted byte text) (some_is (take n text, drop (n + 1) text) parts (ap (λ (k : ℕ). let p : Option TwoParts = Some (take k text, drop (k + 1) text) in p) inside.1 ∙ place.2)) here
  where
    mapped : (o : Option ℕ) → option_map (λ place. let p : TwoParts = (take place text, drop (place + 1) text) in p) o ≡ Some parts
        → option_and_then (λ (place : ℕ). let p : Option TwoParts = Some (take place text, drop (place + 1) text) in p) o ≡ Some parts
    mapped None e = e
    mapped (Some place) e = e

    opposite : (b : Bool) → not b ≡ false → b ≡ true
    opposite true e = refl
    opposite false e = sym e

run_whole : (belongs : ℕ → Bool) (text : List ℕ) → text ≡ (run belongs text).0 ++ (run belongs text).1
unfolding run
run_whole belongs text = sym (take-append-drop (run_length belongs text) text)

-- ---- what may follow

over_found : (text : List ℕ) → is_over text ≡ true → IsComment text
unfolding is_over
over_found [] over = no_comment
over_found (first ∷ text) over = subst (λ (b : ℕ). IsComment (b ∷ text)) (sym (eqb-true first 35 over)) comment

tail_found : (reason : Reason) (text : List ℕ) → tail_fault reason text ≡ None → IsTail text
unfolding tail_fault
tail_found reason text e = elim (cases_Bool (is_over (unblanked text))) [
  | inl over ↦ subst IsTail (sym start.is) (bare start.blanks start.all (over_found (unblanked text) over))
  | inr goes_on ↦ opened_tail (after_byte 123 (unblanked text)) refl (rw goes_on at e)
]
  where
    start : Blanked text
    start = blanks_found text

    none_some : {X : Type 0} (reason : Reason) → Some reason ≡ None → X
    none_some reason e = absurd cc

    closed_tail : (inner : List ℕ) (o : Option TwoParts) → unblanked text ≡ 123 ∷ inner → parted 125 inner ≡ o → annotated_fault o ≡ None → IsTail text
    closed_tail inner None opens at e = none_some reasons.Annotation e
    closed_tail inner (Some parts) opens at e =
        let cut = parted_found 125 inner parts at in
        let behind = blanks_found parts.1 in
        let over : is_over (unblanked parts.1) ≡ true = over_of (is_over (unblanked parts.1)) e in
        let whole : text ≡ start.blanks ++ 123 ∷ (parts.0 ++ 125 ∷ (behind.blanks ++ unblanked parts.1)) =
        start.is ∙ ap (λ (t : List ℕ). start.blanks ++ t) (opens ∙ ap (λ (t : List ℕ). 123 ∷ t) (cut.is ∙ ap (λ (t : List ℕ). parts.0 ++ 125 ∷ t) behind.is)) in
        subst IsTail (sym whole) (annotated start.blanks parts.0 behind.blanks start.all cut.first behind.all (over_found (unblanked parts.1) over))
      where
        over_of : (b : Bool) → cond b None (Some reasons.Annotation) ≡ None → b ≡ true
        over_of true e = refl
        over_of false e = none_some reasons.Annotation e

    opened_tail : (o : Option (List ℕ)) → after_byte 123 (unblanked text) ≡ o → not_over reason o ≡ None → IsTail text
    opened_tail None at e = none_some reason e
    opened_tail (Some inner) at e = closed_tail inner (parted 125 inner) (after_found 123 (unblanked text) inner at) refl e

-- ---- the address

number_found : (digits : List ℕ) (number : ℕ) → address_number digits ≡ Some number → IsBitNumber digits number
unfolding address_number
number_found digits number e =
    let found = if_gives _ (number_of 10 digits) number e in
    let tests = and_parts _ (ltb (number_of 10 digits) (2 ^ 32)) found.0 in
    let first = and_parts (ltb 0 (length digits)) (list_all (λ byte. is_digit byte 10) digits) tests.0 in
    let some : 0 < length digits = ltb-true 0 (length digits) first.0 in
    let below : number_of 10 digits < 2 ^ 32 = ltb-true (number_of 10 digits) (2 ^ 32) tests.1 in
    record { some = omega (arith, some); all = first.1; is = sym found.1; small = subst (λ (n : ℕ). n < 2 ^ 32) found.1 below }

record EndsFound (ends : TwoParts) (found : TwoNumbers) : Type 0 where
  high : IsBitNumber ends.0 found.0
  low : IsBitNumber ends.1 found.1
  ordered : found.1 ≤ found.0

ends_found : (ends : TwoParts) (found : TwoNumbers) → numbers_of ends ≡ Some found → EndsFound ends found
ends_found ends found e =
    let high = then_gives (λ (high : ℕ). option_and_then (λ (low : ℕ). in_order high low) (address_number ends.1)) (address_number ends.0) found e in
    let low = then_gives (λ (low : ℕ). in_order high.0 low) (address_number ends.1) found high.2 in
    let both = if_gives (leb low.0 high.0) (let p : TwoNumbers = (high.0, low.0) in p) found low.2 in
    let here : EndsFound ends (high.0, low.0) = record { high = number_found ends.0 high.0 high.1; low = number_found ends.1 low.0 low.1; ordered = leb-true low.0 high.0 both.0 } in
    subst (EndsFound ends) both.1 here

-- the text of an address in front of what follows it
record AddressFound (text : List ℕ) (address : Addressed) : Type 0 where
  front : List ℕ
  is : text ≡ front ++ address.rest
  is_address : IsAddress front address.high address.low

brackets_found : (inner : List ℕ) (found : TwoNumbers) → address_of inner ≡ Some found → IsAddress (91 ∷ (inner ++ 93 ∷ [])) found.0 found.1
unfolding address_of
brackets_found inner found e = by (parted 58 inner) refl e
  where
    by : (o : Option TwoParts) → parted 58 inner ≡ o → numbers_of (both_ends inner o) ≡ Some found → IsAddress (91 ∷ (inner ++ 93 ∷ [])) found.0 found.1
    by None at e =
        let ends = ends_found (inner, inner) found e in
        let same : found.0 ≡ found.1 = ends.high.is ∙ sym ends.low.is in
        subst (λ (n : ℕ). IsAddress (91 ∷ (inner ++ 93 ∷ [])) found.0 n) same (one_bit ends.high)
    by (Some parts) at e =
        let ends = ends_found parts found e in
        let cut = parted_found 58 inner parts at in
        subst (λ (t : List ℕ). IsAddress (91 ∷ (t ++ 93 ∷ [])) found.0 found.1) (sym cut.is) (bits ends.high ends.low ends.ordered)

address_found : (text : List ℕ) (address : Addressed) → address_at text ≡ Some address → AddressFound text address
unfolding address_at
address_found text address e = by (after_byte 91 text) refl e
  where
    within : (inner : List ℕ) (o : Option TwoParts) → text ≡ 91 ∷ inner → parted 93 inner ≡ o → closed o ≡ Some address → AddressFound text address
    within inner None opens at e = none_is address e
    within inner (Some parts) opens at e = inside (address_of parts.0) refl e
      where
        cut : IsParted 93 inner parts
        cut = parted_found 93 inner parts at

        inside : (o : Option TwoNumbers) → address_of parts.0 ≡ o → option_map (λ found. addressed found parts.1) o ≡ Some address → AddressFound text address
        inside None found e = none_is address e
        inside (Some numbers) found e =
            let whole : text ≡ (91 ∷ (parts.0 ++ 93 ∷ [])) ++ parts.1 = opens ∙ ap (λ (t : List ℕ). 91 ∷ t) (cut.is ∙ sym (append_assoc parts.0 (93 ∷ []) parts.1)) in
            let here : AddressFound text (addressed numbers parts.1) = record { front = 91 ∷ (parts.0 ++ 93 ∷ []); is = whole; is_address = brackets_found parts.0 numbers found } in
            subst (AddressFound text) (some_is (addressed numbers parts.1) address e) here

    by : (o : Option (List ℕ)) → after_byte 91 text ≡ o → opened text o ≡ Some address → AddressFound text address
    by None at e =
        let none : Addressed = record { high = 0; low = 0; reason = reasons.Feature; rest = text } in
        let here : AddressFound text none = record { front = []; is = refl; is_address = no_address } in
        subst (AddressFound text) (some_is none address e) here
    by (Some inner) at e = within inner (parted 93 inner) (after_found 91 text inner at) refl e

-- ---- the value

-- a number that is held by 128 bits
held_found : (number value other : ℕ) → ok_or (small number) (bits_limit other) ≡ Ok value → (number < 2 ^ 128) × (number ≡ value)
held_found number value other e = by (ltb number (2 ^ 128)) refl e
  where
    by : (b : Bool) → ltb number (2 ^ 128) ≡ b → ok_or (cond b (Some number) None) (bits_limit other) ≡ Ok value → (number < 2 ^ 128) × (number ≡ value)
    by true is e = (ltb-true number (2 ^ 128) is, let same = e in cc)
    by false is e = absurd (let differ = e in cc)

record LiteralFound (word : List ℕ) (literal : Literal) : Type 0 where
  value : (value : ℕ) → number_or_limit literal ≡ Ok value → (width : ℕ) → fits literal width ≡ true → IsLiteral word value × (value < 2 ^ width)

-- how a width is written
record WidthFound (text : List ℕ) (width : ℕ) : Type 0 where
  is : is_decimal text ≡ true
  some : 1 ≤ number_of 10 text
  width_is : width ≡ capped (number_of 10 text)

width_found : (text : List ℕ) (width : ℕ) → written_width text ≡ Some width → WidthFound text width
width_found text width e =
    let found = if_gives _ (capped (number_of 10 text)) width e in
    let tests = and_parts (is_decimal text) (ltb 0 (number_of 10 text)) found.0 in
    let some : 0 < number_of 10 text = ltb-true 0 (number_of 10 text) tests.1 in
    record { is = tests.0; some = omega (arith, some); width_is = sym found.1 }

-- a number within a limit
within_limit : (width number value : ℕ) → limited (Some width) (small number) ≡ Ok value → (width ≤ 128) × (ok_or (small number) (bits_limit 129) ≡ Ok value)
within_limit width number value e = by (ltb 128 width) refl e
  where
    by : (b : Bool) → ltb 128 width ≡ b → cond b (Err (bits_limit width)) (ok_or (small number) (bits_limit 129)) ≡ Ok value
        → (width ≤ 128) × (ok_or (small number) (bits_limit 129) ≡ Ok value)
    by true is e = absurd (let differ = e in cc)
    by false is e = (ltb-false 128 width is, e)

sized_found : (word : List ℕ) (literal : Literal) (width based_text : List ℕ) → word ≡ width ++ 39 ∷ based_text → sized_literal width based_text ≡ Some literal → LiteralFound word literal
unfolding sized_literal
sized_found word literal width [] is e = none_is literal e
sized_found word literal width (letter ∷ digits) is e = by (written_width width) (base_of letter) refl refl e
  where
    based_found : (wide : ℕ) (base : Base) → WidthFound width wide → base_of letter ≡ Some base → is_number (radix base) digits ≡ true
        → LiteralFound word (record { width = Some wide; base = base; digits = digits })
    based_found wide base written base_is number_is = record {
      value = λ value number bits fit.
          let limit = within_limit wide (number_of (radix base) digits) value number in
          let held = held_found (number_of (radix base) digits) value 129 limit.1 in
          let narrow : number_of 10 width ≤ 128 = omega (arith, limit.0, written.width_is) in
          let same : wide ≡ number_of 10 width = omega (arith, limit.0, written.width_is) in
          let below : number_of (radix base) digits < 2 ^ min wide bits = ltb-true (number_of (radix base) digits) (2 ^ min wide bits) fit in
          let in_width : number_of (radix base) digits < 2 ^ wide = lt_of_lt_of_le below (power_more (min wide bits) wide (omega arith)) in
          let in_bits : number_of (radix base) digits < 2 ^ bits = lt_of_lt_of_le below (power_more (min wide bits) bits (omega arith)) in
          let here : IsLiteral (width ++ 39 ∷ letter ∷ digits) (number_of (radix base) digits) =
          based width digits letter written.is written.some narrow base_is number_is (subst (λ (n : ℕ). number_of (radix base) digits < 2 ^ n) same in_width) in
          (subst (λ (n : ℕ). IsLiteral word n) held.1 (subst (λ (t : List ℕ). IsLiteral t (number_of (radix base) digits)) (sym is) here), subst (λ (n : ℕ). n < 2 ^ bits) held.1 in_bits);
    }

    by : (w : Option ℕ) (b : Option Base) → written_width width ≡ w → base_of letter ≡ b → based_literal w b digits ≡ Some literal → LiteralFound word literal
    by None b width_is base_is e = none_is literal e
    by (Some wide) None width_is base_is e = none_is literal e
    by (Some wide) (Some base) width_is base_is e =
        let found = if_gives (is_number (radix base) digits) (let l : Literal = record { width = Some wide; base = base; digits = digits } in l) literal e in
        subst (LiteralFound word) found.1 (based_found wide base (width_found width wide width_is) base_is found.0)

literal_found : (word : List ℕ) (literal : Literal) → literal_of word ≡ Some literal → LiteralFound word literal
unfolding literal_of
literal_found word literal e = by (parted 39 word) refl e
  where
    decimal_found : is_decimal word ≡ true → LiteralFound word (record { width = None; base = bases.Decimal; digits = word })
    decimal_found is = record {
      value = λ value number width fit.
          let held = held_found (number_of 10 word) value 129 number in
          (subst (λ (n : ℕ). IsLiteral word n) held.1 (decimal is held.0), subst (λ (n : ℕ). n < 2 ^ width) held.1 (ltb-true (number_of 10 word) (2 ^ width) fit));
    }

    by : (o : Option TwoParts) → parted 39 word ≡ o → literal_with word o ≡ Some literal → LiteralFound word literal
    by None at e =
        let found = if_gives (is_decimal word) (let l : Literal = record { width = None; base = bases.Decimal; digits = word } in l) literal e in
        subst (LiteralFound word) found.1 (decimal_found found.0)
    by (Some parts) at e = sized_found word literal parts.0 parts.1 (parted_found 39 word parts at).is e

-- the text of a value in front of what follows it
record ValueFound (address : Addressed) (value : ℕ) : Type 0 where
  front : List ℕ
  rest : List ℕ
  is : address.rest ≡ front ++ rest
  is_value : IsValue (width_of address.high address.low) front value
  tail : IsTail rest

-- a value behind which nothing is wrong
ended_found : (reason : Option Reason) (answer : Result ℕ Problem) (value : ℕ) → ended reason answer ≡ Ok value → (reason ≡ None) × (answer ≡ Ok value)
ended_found None answer value e = (refl, e)
ended_found (Some reason) answer value e = absurd (let differ = e in cc)

value_found : (address : Addressed) (value : ℕ) → valued (value_at address) ≡ Ok value → ValueFound address value
unfolding value_at written_value
value_found address value e = by (after_byte 61 (unblanked address.rest)) refl e
  where
    width : ℕ
    width = width_of address.high address.low

    start : Blanked address.rest
    start = blanks_found address.rest

    written : (text : List ℕ) (o : Option Literal) → unblanked address.rest ≡ 61 ∷ text → literal_of (run is_of_value (unblanked text)).0 ≡ o
        → valued (fitting width (run is_of_value (unblanked text)).1 o) ≡ Ok value → ValueFound address value
    written text None opens at e = absurd (let differ = e in cc)
    written text (Some literal) opens at e = fitted (fits literal width) refl e
      where
        word : List ℕ
        word = (run is_of_value (unblanked text)).0

        rest : List ℕ
        rest = (run is_of_value (unblanked text)).1

        fitted : (b : Bool) → fits literal width ≡ b → valued (cond b (Some (let v : Valued = record { value = number_or_limit literal; reason = reasons.Value; rest = rest } in v)) None) ≡ Ok value
            → ValueFound address value
        fitted false fit e = absurd (let differ = e in cc)
        fitted true fit e =
            let ended_so = ended_found (tail_fault reasons.Value rest) (number_or_limit literal) value e in
            let is = (literal_found word literal at).value value ended_so.1 width fit in
            let behind = blanks_found text in
            let whole : address.rest ≡ (start.blanks ++ 61 ∷ (behind.blanks ++ word)) ++ rest =
            start.is ∙ ap (λ (t : List ℕ). start.blanks ++ t) (opens ∙ ap (λ (t : List ℕ). 61 ∷ t) (behind.is ∙ ap (λ (t : List ℕ). behind.blanks ++ t) (run_whole is_of_value (unblanked text))
            ∙ sym (append_assoc behind.blanks word rest))) ∙ sym (append_assoc start.blanks (61 ∷ (behind.blanks ++ word)) rest) in
            record {
              front = start.blanks ++ 61 ∷ (behind.blanks ++ word);
              rest = rest;
              is = whole;
              is_value = value_is start.blanks behind.blanks start.all behind.all is.0 is.1;
              tail = tail_found reasons.Value rest ended_so.0;
            }

    by : (o : Option (List ℕ)) → after_byte 61 (unblanked address.rest) ≡ o → valued (with_value address o) ≡ Ok value → ValueFound address value
    by None at e =
        let ended_so = ended_found (tail_fault address.reason address.rest) (Ok 1) value e in
        let one : 1 ≡ value = ok_is 1 value ended_so.1 in
        record { front = []; rest = address.rest; is = refl; is_value = subst (IsValue width []) one no_value; tail = tail_found address.reason address.rest ended_so.0 }
    by (Some text) at e = written text (literal_of (run is_of_value (unblanked text)).0) (after_found 61 (unblanked address.rest) text at) refl e

-- ---- the line

-- blanks in front make no difference for what may follow
unblanked_twice : (text : List ℕ) → unblanked (unblanked text) ≡ unblanked text
unfolding unblanked
unblanked_twice [] = refl
unblanked_twice (first ∷ text) = elim (cases_Bool (is_blank first)) [
  | inl blank ↦ (let more = unblanked_twice text in rw blank more)
  | inr full ↦ (let stays = no_blank first text full in ap unblanked stays)
]

same_tail : (reason : Reason) (text : List ℕ) → tail_fault reason text ≡ tail_fault reason (unblanked text)
unfolding tail_fault
same_tail reason text = ap (λ (t : List ℕ). cond (is_over t) None (not_over reason (after_byte 123 t))) (sym (unblanked_twice text))

-- what a line that is not refused says, by its parts
Found : (number : ℕ) (line : List ℕ) → Result (Option Feature) Problem → Type 0
Found number line answer = refusal_of answer ≡ None → Says number line (said answer)

module _ (number : ℕ) (line : List ℕ) where
  abbrev words : List ℕ
  words = (run is_of_feature (unblanked line)).0

  abbrev behind : List ℕ
  behind = (run is_of_feature (unblanked line)).1

  feature_found : (address : Addressed) (value : ℕ) → is_feature words ≡ true → address_at behind ≡ Some address → valued (value_at address) ≡ Ok value
      → Says number line ((let f : Feature = record { line = number; name = words; high = address.high; low = address.low; value = value } in f) ∷ [])
  feature_found address value named at read =
      let start = blanks_found line in
      let front = address_found behind address at in
      let rest = value_found address value read in
      let parts : FeatureParts = record { blanks = start.blanks; name = words; address = front.front; value = rest.front; tail = rest.rest } in
      let whole : line ≡ line_text parts =
      start.is ∙ ap (λ (t : List ℕ). start.blanks ++ t) (run_whole is_of_feature (unblanked line) ∙ ap (λ (t : List ℕ). words ++ t) (front.is ∙ ap (λ (t : List ℕ). front.front ++ t) rest.is)) in
      let feature : Feature = record { line = number; name = words; high = address.high; low = address.low; value = value } in
      let give : Give parts feature = record { blanks = start.all; name_is = refl; names = named; address = front.is_address; value = rest.is_value; tail = rest.tail } in
      subst (λ (t : List ℕ). Says number t (feature ∷ [])) (sym whole) (says give refl)

  valued_found : (address : Addressed) (answer : Result ℕ Problem) → is_feature words ≡ true → address_at behind ≡ Some address → valued (value_at address) ≡ answer
      → Found number line (with_number number words address answer)
  unfolding Found
  valued_found address (Ok value) named at read e = feature_found address value named at read
  valued_found address (Err problem) named at read e = absurd (let differ = e in cc)

  addressed_found : (o : Option Addressed) → is_feature words ≡ true → address_at behind ≡ o → Found number line (with_address number words o)
  unfolding Found
  addressed_found None named at e = absurd (let differ = e in cc)
  addressed_found (Some address) named at e = valued_found address (valued (value_at address)) named at refl e

  named_found : (b : Bool) → is_feature words ≡ b → Found number line (cond b (with_address number words (address_at behind)) (Err (problems.Malformed reasons.Feature)))
  unfolding Found
  named_found true named e = addressed_found (address_at behind) named refl e
  named_found false named e = absurd (let differ = e in cc)

  -- a line without names
  blank_found : (o : Option Reason) → tail_fault reasons.Feature (unblanked line) ≡ o → Found number line (nothing_said o)
  unfolding Found
  blank_found None right e = nothing (tail_found reasons.Feature line (same_tail reasons.Feature line ∙ right))
  blank_found (Some reason) right e = absurd (let differ = e in cc)

  words_found : (b : Bool) → Found number line (cond b (nothing_said (tail_fault reasons.Feature (unblanked line))) (feature_line number (run is_of_feature (unblanked line))))
  unfolding feature_line
  words_found true = blank_found (tail_fault reasons.Feature (unblanked line)) refl
  words_found false = named_found (is_feature words) refl

  returned_found : (b : Bool) → Found number line (cond b (Err (problems.Malformed reasons.Feature)) (line_of_text number (unblanked line)))
  unfolding Found
  returned_found true e = absurd (let differ = e in cc)
  returned_found false e = words_found (eqb (length words) 0) e

  pub line_found : refusal_of (line_of number line) ≡ None → Says number line (said (line_of number line))
  unfolding line_of Found
  line_found e = returned_found (has_return false line) e
