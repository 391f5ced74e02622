-- A place or a site that is printed is read, and what is read was printed so.
use Rattle.std.proofs.Common.{◌≡◌, ℕ, ◌+◌, ◌-◌, ◌*◌, ◌/◌, ◌%◌, ◌<◌, ◌≤◌, Bool, true, false, cond, ◌&&◌, eqb, ltb, List, [], ◌∷◌, ◌++◌, Option, Some, None, refl, sym, ap, subst, ◌∙◌, arith, inl, inr, decimal, append_assoc, eq-eqb}
use Rattle.std.specs.Prelude.{nat_le}
use Rattle.std.proofs.lemmas.Bool.{cases_lt, lt-ltb, eqb-true, ltb-true}
use Rattle.std.proofs.lemmas.Bool.Decides.{nat_tests}
use Rattle.std.proofs.lemmas.Fmt.{decimal_digit, decimal_step}
use Rattle.std.proofs.lemmas.List.{append-nil}
use Rattle.fab_lines.specs.Numbers.{is_digit}
use Rattle.fab_fabric.specs.Names.{place_name, site_text}
use Rattle.fab_fabric.specs.declared.wire.Site.{Site}
use Rattle.fab_texts.specs.Places.{IsWritable, number_at, after_byte, letter_of, PlaceAt, place_at, site_of, ◌>>=◌}

digit_is : (n : ℕ) → n < 10 → is_digit (48 + n) ≡ true
digit_is n h = grind (arith, nat_tests)

not_zero : (n : ℕ) → 0 < n → eqb (48 + n) 48 ≡ false
not_zero n h = grind (arith, nat_tests)

number_again : (n b : ℕ) (rest : List ℕ) → n < 100 → is_digit b ≡ false → number_at (decimal n ++ b ∷ rest) ≡ Some (n, b ∷ rest)
number_again n b rest small stop = elim (cases_lt n 10) [
  | inl lt ↦
      let back : 48 + n - 48 ≡ n = omega arith in
      ap (λ (ds : List ℕ). number_at (ds ++ b ∷ rest)) (decimal_digit n lt) ∙ rw (digit_is n lt, stop, back) refl
  | inr le ↦
      let high : n / 10 < 10 = omega arith in
      let low : n % 10 < 10 = omega arith in
      let some : 0 < n / 10 = omega arith in
      let back : 10 * (48 + n / 10 - 48) + (48 + n % 10 - 48) ≡ n = omega arith in
      ap (λ (ds : List ℕ). number_at (ds ++ b ∷ rest)) (decimal_step n le (omega arith) ∙ ap (λ (ds : List ℕ). ds ++ (48 + n % 10) ∷ []) (decimal_digit (n / 10) high)) ∙ rw (digit_is (n / 10) high, digit_is (n % 10) low, not_zero (n / 10) some, back) refl
]

letter_again : (n : ℕ) → n < 26 → letter_of ((65 + n) ∷ []) ≡ Some n
letter_again n h =
    let test : (nat_le 65 (65 + n) && nat_le (65 + n) 90) ≡ true = grind (arith, nat_tests) in
    let back : 65 + n - 65 ≡ n = omega arith in
    rw (test, back) refl

abbrev pub found_place : (x y : ℕ) → (rest : List ℕ) → PlaceAt
found_place x y rest = record { x = x; y = y; rest = rest }

place_split : (x y : ℕ) (rest : List ℕ) → place_name x y ++ rest ≡ 88 ∷ (decimal x ++ 89 ∷ (decimal y ++ rest))
place_split x y rest = search (append_assoc)

pub place_again : (x y byte : ℕ) (rest : List ℕ) → x < 32 → y < 31 → is_digit byte ≡ false → place_at (place_name x y ++ byte ∷ rest) ≡ Some (found_place x y (byte ∷ rest))
unfolding place_at
place_again x y byte rest small_x small_y stop =
    let bounds : (ltb x 32 && ltb y 31) ≡ true = rw (lt-ltb x 32 small_x, lt-ltb y 31 small_y) refl in
    ap place_at (place_split x y (byte ∷ rest)) ∙ rw (number_again x 89 (decimal y ++ byte ∷ rest) (omega (arith, small_x)) refl, number_again y byte rest (omega (arith, small_y)) stop, bounds) refl

pub site_again : (s : Site) → IsWritable s → site_of (site_text s) ≡ Some s
unfolding site_of
site_again s fits =
    let a : site_text s ≡ place_name s.x s.y ++ 46 ∷ (65 + s.bel) ∷ [] = search (append_assoc) in
    ap site_of a ∙ rw (place_again s.x s.y 46 ((65 + s.bel) ∷ []) fits.x fits.y refl, letter_again s.bel fits.bel) refl

-- ---- a word that is read as a site is its text

then_some : {A B : Type 0} (o : Option A) (f : A → Option B) (y : B) → (o >>= f) ≡ Some y → (x : A) × (o ≡ Some x) × (f x ≡ Some y)
then_some None f y h = absurd cc
then_some (Some x) f y h = (x, refl, h)

chosen : {A : Type 0} (b : Bool) (x y : A) → cond b (Some x) None ≡ Some y → (b ≡ true) × (x ≡ y)
chosen true x y h = (refl, cc)
chosen false x y h = absurd cc

digit_low : (a : ℕ) → is_digit a ≡ true → (48 ≤ a) × (a ≤ 57)
digit_low a h = (grind (arith, nat_tests), grind (arith, nat_tests))

one_digit : (a : ℕ) → is_digit a ≡ true → decimal (a - 48) ≡ a ∷ []
one_digit a h =
    let d = digit_low a h in
    let back : 48 + (a - 48) ≡ a = omega (arith, d.0) in
    decimal_digit (a - 48) (omega (arith, d.0, d.1)) ∙ ap (λ k. k ∷ []) back

two_digits : (a b : ℕ) → is_digit a ≡ true → is_digit b ≡ true → eqb a 48 ≡ false → decimal (10 * (a - 48) + (b - 48)) ≡ a ∷ b ∷ []
two_digits a b ha hb hz =
    let da = digit_low a ha in
    let db = digit_low b hb in
    let apart : a ≡ 48 → ⊥ = λ e. let bad : eqb a 48 ≡ true = eq-eqb a 48 e in cc in
    let n = 10 * (a - 48) + (b - 48) in
    let big : 10 ≤ n = omega (arith, da.0, da.1, db.0, db.1, apart) in
    let high : n / 10 ≡ a - 48 = omega (arith, da.0, da.1, db.0, db.1) in
    let low : 48 + n % 10 ≡ b = omega (arith, da.0, da.1, db.0, db.1) in
    decimal_step n big (omega (arith, da.1, db.1)) ∙ ap (λ k. decimal k ++ (48 + n % 10) ∷ []) high ∙ rw (one_digit a ha, low) refl

number_by : (a b : ℕ) (rest : List ℕ) (da db zero : Bool) (n : ℕ) (after : List ℕ) → is_digit a ≡ da → is_digit b ≡ db → eqb a 48 ≡ zero
    → cond {A = Option (ℕ × List ℕ)} da (cond db (cond zero None (Some (10 * (a - 48) + (b - 48), rest))) (Some (a - 48, b ∷ rest))) None ≡ Some (n, after) → a ∷ b ∷ rest ≡ decimal n ++ after
number_by a b rest false db z n after ha hb hz h = absurd cc
number_by a b rest true false z n after ha hb hz h =
    let one : ℕ × List ℕ = (a - 48, b ∷ rest) in
    let got : ℕ × List ℕ = (n, after) in
    let e : one ≡ got = cc in
    ap (λ (ds : List ℕ). ds ++ b ∷ rest) (sym (one_digit a ha)) ∙ ap (λ (p : ℕ × List ℕ). decimal p.0 ++ p.1) e
number_by a b rest true true true n after ha hb hz h = absurd cc
number_by a b rest true true false n after ha hb hz h =
    let two : ℕ × List ℕ = (10 * (a - 48) + (b - 48), rest) in
    let got : ℕ × List ℕ = (n, after) in
    let e : two ≡ got = cc in
    ap (λ (ds : List ℕ). ds ++ rest) (sym (two_digits a b ha hb hz)) ∙ ap (λ (p : ℕ × List ℕ). decimal p.0 ++ p.1) e

number_takes : (bs : List ℕ) (n : ℕ) (after : List ℕ) → number_at bs ≡ Some (n, after) → bs ≡ decimal n ++ after
number_takes [] n after h = absurd cc
number_takes (a ∷ []) n after h =
    let c = chosen (is_digit a) (a - 48, []) (n, after) h in
    sym (one_digit a c.0) ∙ sym (append-nil (decimal (a - 48))) ∙ ap (λ (p : ℕ × List ℕ). decimal p.0 ++ p.1) c.1
number_takes (a ∷ b ∷ rest) n after h = number_by a b rest (is_digit a) (is_digit b) (eqb a 48) n after refl refl refl h

pub byte_takes : (b : ℕ) (bs after : List ℕ) → after_byte b bs ≡ Some after → bs ≡ b ∷ after
byte_takes b [] after h = absurd cc
byte_takes b (c ∷ rest) after h =
    let x = chosen (eqb c b) rest after h in
    ap (λ k. k ∷ rest) (eqb-true c b x.0) ∙ ap (λ (r : List ℕ). b ∷ r) x.1

letter_takes : (bs : List ℕ) (n : ℕ) → letter_of bs ≡ Some n → (bs ≡ (65 + n) ∷ []) × (n < 26)
letter_takes [] n h = absurd cc
letter_takes (b ∷ []) n h =
    let x = chosen (nat_le 65 b && nat_le b 90) (b - 65) n h in
    let range : (65 ≤ b) × (b ≤ 90) = let t = x.0 in (grind (arith, nat_tests), grind (arith, nat_tests)) in
    let e : b ≡ 65 + n = omega (arith, range.0, x.1) in
    (ap (λ k. k ∷ []) e, omega (arith, range.0, range.1, x.1))
letter_takes (b ∷ c ∷ rest) n h = absurd cc

and_both : (a b : Bool) → (a && b) ≡ true → (a ≡ true) × (b ≡ true)
and_both true b h = (refl, h)
and_both false b h = absurd cc

pub record ReadsPlace (word : List ℕ) (place : PlaceAt) : Type 0 where
  pub text : word ≡ place_name place.x place.y ++ place.rest
  pub x : place.x < 32
  pub y : place.y < 31

pub place_takes : (word : List ℕ) (place : PlaceAt) → place_at word ≡ Some place → ReadsPlace word place
unfolding place_at
place_takes word place h =
    let a = then_some (after_byte 88 word) (λ r. number_at r >>= λ x. after_byte 89 x.1 >>= λ r2. number_at r2 >>= λ y. cond (ltb x.0 32 && ltb y.0 31) (Some (found_place x.0 y.0 y.1)) None) place h in
    let x = then_some (number_at a.0) (λ x. after_byte 89 x.1 >>= λ r2. number_at r2 >>= λ y. cond (ltb x.0 32 && ltb y.0 31) (Some (found_place x.0 y.0 y.1)) None) place a.2 in
    let b = then_some (after_byte 89 x.0.1) (λ r2. number_at r2 >>= λ y. cond (ltb x.0.0 32 && ltb y.0 31) (Some (found_place x.0.0 y.0 y.1)) None) place x.2 in
    let y = then_some (number_at b.0) (λ y. cond (ltb x.0.0 32 && ltb y.0 31) (Some (found_place x.0.0 y.0 y.1)) None) place b.2 in
    let made = found_place x.0.0 y.0.0 y.0.1 in
    let e = chosen (ltb x.0.0 32 && ltb y.0.0 31) made place y.2 in
    let bounds = and_both (ltb x.0.0 32) (ltb y.0.0 31) e.0 in
    let t2 : x.0.1 ≡ 89 ∷ (decimal y.0.0 ++ y.0.1) = byte_takes 89 x.0.1 b.0 b.1 ∙ ap (λ (r : List ℕ). 89 ∷ r) (number_takes b.0 y.0.0 y.0.1 y.1) in
    let t1 : word ≡ 88 ∷ (decimal x.0.0 ++ 89 ∷ (decimal y.0.0 ++ y.0.1)) = byte_takes 88 word a.0 a.1 ∙ ap (λ (r : List ℕ). 88 ∷ r) (number_takes a.0 x.0.0 x.0.1 x.1 ∙ ap (λ (r : List ℕ). decimal x.0.0 ++ r) t2) in
    let reads : ReadsPlace word made = record { text = t1 ∙ sym (place_split x.0.0 y.0.0 y.0.1); x = ltb-true x.0.0 32 bounds.0; y = ltb-true y.0.0 31 bounds.1 } in
    subst (ReadsPlace word) e.1 reads

pub site_takes : (word : List ℕ) (s : Site) → site_of word ≡ Some s → (word ≡ site_text s) × IsWritable s
unfolding site_of
site_takes word s h =
    let p = then_some (place_at word) (λ place. after_byte 46 place.rest >>= λ letter. letter_of letter >>= λ bel. Some (record { x = place.x; y = place.y; bel = bel })) s h in
    let c = then_some (after_byte 46 p.0.rest) (λ letter. letter_of letter >>= λ bel. Some (record { x = p.0.x; y = p.0.y; bel = bel })) s p.2 in
    let l = then_some (letter_of c.0) (λ bel. Some (record { x = p.0.x; y = p.0.y; bel = bel })) s c.2 in
    let made : Site = record { x = p.0.x; y = p.0.y; bel = l.0 } in
    let found : Option Site = Some made in
    let sought : Option Site = Some s in
    let so : found ≡ sought = l.2 in
    let same : made ≡ s = cc in
    let place = place_takes word p.0 p.1 in
    let letter = letter_takes c.0 l.0 l.1 in
    let rest : p.0.rest ≡ 46 ∷ (65 + l.0) ∷ [] = byte_takes 46 p.0.rest c.0 c.1 ∙ ap (λ (r : List ℕ). 46 ∷ r) letter.0 in
    let grouped : place_name p.0.x p.0.y ++ 46 ∷ (65 + l.0) ∷ [] ≡ site_text made = search (append_assoc) in
    let fits : IsWritable made = record { x = place.x; y = place.y; bel = letter.1 } in
    subst (λ (q : Site). (word ≡ site_text q) × IsWritable q) same (place.text ∙ ap (λ (r : List ℕ). place_name p.0.x p.0.y ++ r) rest ∙ grouped, fits)
