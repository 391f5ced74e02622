-- Tables of covers of at most four inputs: they have 16 bits, and are repeated over the inputs that a cover does not have.
use Rattle.std.proofs.Common.{◌≡◌, ℕ, zero, suc, ◌+◌, ◌*◌, ◌/◌, ◌%◌, ◌^◌, ◌<◌, ◌≤◌, Bool, true, false, not, ◌||◌, List, [], ◌∷◌, length, max, nat_eq, bit_and, if◌then◌else◌, refl, sym, ap, subst, ◌∙◌, arith}
use Rattle.std.specs.List.{All, list_any}
use Rattle.std.proofs.lemmas.Nat.{and_le_r, and_mod, shr-shr}
use Rattle.std.proofs.Math.Nat.{mod-eq_of_lt, mod-le}
use Rattle.fab_bits.specs.Bits.{bit_number, number, first_bits}
use Rattle.fab_bits.proofs.Numbers.{first_bits_same}
use Rattle.fab_netlist.specs.declared.wide.Cube.{Cube}
use Rattle.fab_netlist.specs.WellMade.{table_bit}
use Rattle.fab_netlist.specs.Wide.{IsFineRow, PlainWideCover, matches, rows_say, tabled_cover}

-- ---- the bits of a table

lowest : (b : Bool) (k : ℕ) → nat_eq ((bit_number b + 2 * k) / 2 ^ 0 % 2) 1 ≡ b
lowest true k = let one : (1 + 2 * k) / 1 % 2 ≡ 1 = omega arith in rw one refl
lowest false k = let none : (0 + 2 * k) / 1 % 2 ≡ 0 = omega arith in rw none refl

above : (b : Bool) (k : ℕ) → (bit_number b + 2 * k) / 2 ≡ k
above true k = omega arith
above false k = omega arith

higher : (b : Bool) (k place : ℕ) → (bit_number b + 2 * k) / 2 ^ suc place ≡ k / 2 ^ place
higher b k place =
    let more : suc place ≡ 1 + place = omega arith in
    ap (λ (p : ℕ). (bit_number b + 2 * k) / 2 ^ p) more
    ∙ sym (shr-shr (bit_number b + 2 * k) 1 place)
    ∙ ap (λ (n : ℕ). n / 2 ^ place) (above b k)

bit_at : (n : ℕ) (f : ℕ → Bool) (place : ℕ) → place < n → table_bit (number (first_bits n f)) place ≡ f place
bit_at zero f place within = absurd (omega arith)
bit_at (suc n) f zero within = lowest (f 0) (number (first_bits n (λ i. f (suc i))))
bit_at (suc n) f (suc place) within =
    ap (λ (k : ℕ). nat_eq (k % 2) 1) (higher (f 0) (number (first_bits n (λ i. f (suc i)))) place)
    ∙ bit_at n (λ i. f (suc i)) place (omega arith)

-- ---- rows that look at few inputs

-- what looks at the low bits alone does not see the others
and_low : (a care width : ℕ) → care < 2 ^ width → bit_and a care ≡ bit_and (a % 2 ^ width) care
and_low a care width low =
    let small : bit_and a care < 2 ^ width = omega (arith, and_le_r a care, low) in
    sym (mod-eq_of_lt small) ∙ and_mod a care width ∙ ap (bit_and (a % 2 ^ width)) (mod-eq_of_lt low)

some_matches : (width place : ℕ) (rows : List Cube) → All (IsFineRow width) rows → list_any (λ cube. matches cube place) rows ≡ list_any (λ cube. matches cube (place % 2 ^ width)) rows
some_matches width place [] all = refl
some_matches width place (cube ∷ rows) all =
    let first : IsFineRow width cube = all zero cube (omega arith) in
    let here : matches cube place ≡ matches cube (place % 2 ^ width) = ap (λ (n : ℕ). nat_eq n cube.value) (and_low place cube.care width first.low) in
    let rest = some_matches width place rows (λ k d within. all (suc k) d (omega arith)) in
    λ j. here j || rest j

rows_repeat : (on : Bool) (width place : ℕ) (rows : List Cube) → All (IsFineRow width) rows → rows_say on rows place ≡ rows_say on rows (place % 2 ^ width)
rows_repeat true width place rows all = some_matches width place rows all
rows_repeat false width place rows all = ap not (some_matches width place rows all)

-- ---- a cover of at most four inputs

table_16 : (made : PlainWideCover) → length made.inputs ≤ 4 → (tabled_cover made).table ≡ number (first_bits 16 (rows_say made.on made.rows))
table_16 made narrow =
    let four : max 4 (length made.inputs) ≡ 4 = omega arith in
    ap (λ (n : ℕ). number (first_bits (2 ^ n) (rows_say made.on made.rows))) four

pub table_repeats : (made : PlainWideCover) → length made.inputs ≤ 4 → All (IsFineRow (length made.inputs)) made.rows → (place : ℕ) → place < 16
    → table_bit (tabled_cover made).table place ≡ table_bit (tabled_cover made).table (place % 2 ^ length made.inputs)
table_repeats made narrow fine place within =
    let says = rows_say made.on made.rows in
    let width = length made.inputs in
    let low : place % 2 ^ width < 16 = omega (arith, mod-le place (2 ^ width)) in
    subst (λ (table : ℕ). table_bit table place ≡ table_bit table (place % 2 ^ width)) (sym (table_16 made narrow))
    (bit_at 16 says place within ∙ rows_repeat made.on width place made.rows fine ∙ sym (bit_at 16 says (place % 2 ^ width) low))

-- its table is the first word of its rows
pub word_is_table : (made : PlainWideCover) → length made.inputs ≤ 4 → number (first_bits 16 (λ low. rows_say made.on made.rows (16 * 0 + low))) ≡ (tabled_cover made).table
word_is_table made narrow =
    ap number (first_bits_same 16 (λ low. rows_say made.on made.rows (16 * 0 + low)) (rows_say made.on made.rows) (λ low within. ap (rows_say made.on made.rows) (omega arith)))
    ∙ sym (table_16 made narrow)
