-- The fields of a tile's configuration bits lie in the tile, and apart.
use Rattle.std.proofs.Common.{◌≡◌, ◌≢◌, ◌⊎◌, ℕ, zero, suc, ◌+◌, ◌*◌, ◌<◌, ◌≤◌, Bool, true, false, not, cond, List, [], ◌∷◌, length, take, nat_eq, slice_get, Option, Some, sym, refl, ap, ◌∙◌, inl, inr, arith, Decides, sum_by}
use Rattle.std.specs.List.{list_any, take_while}
use Rattle.std.specs.Option.{option_map_or}
use Rattle.std.proofs.lemmas.Bool.{false≢true, cases_Bool, cases_lt}
use Rattle.std.proofs.lemmas.Bool.Decides.{Decides-eqb}
use Rattle.std.proofs.lemmas.List.Sums.{sum_by-cons, take_while-cons}
use Rattle.fab_bits.specs.Widths.{select_width}
use Rattle.fab_kinds.specs.declared.kind.Kind.{Kind}
use Rattle.fab_kinds.specs.declared.kind.Kind.TheVariants as kinds
use Rattle.fab_kinds.specs.Pins.{bit_count}
use Rattle.fab_select.specs.Selection.{inputs_of, in_order, field_width, field_low}
use Rattle.fab_select.proofs.Firsts.{told, any_kept}
use Rattle.fab_model.specs.declared.tiles.Bel.{Bel}
use Rattle.fab_model.specs.Tiles.{PlainTile, numbered_pairs, output_field, bel_bits, bel_field, tile_bits, bits_before}
use Rattle.fab_fabric.proofs.Numbered.{some_item}

-- ---- BELs

abbrev bits_of : Bel → ℕ
bits_of bel = bit_count bel.kind

-- the bits of a BEL are among those of all
pub bel_inside : (bels : List Bel) (place : ℕ) (bel : Bel) → slice_get bels place ≡ Some bel → bits_before bels place + bit_count bel.kind ≤ sum_by bits_of bels
bel_inside [] place bel is = absurd cc
bel_inside (other ∷ bels) zero bel is =
    let same : bit_count other.kind ≡ bit_count bel.kind = ap bits_of (the_same other bel is) in
    omega (arith, same, sum_by-cons bits_of other bels)
  where
    the_same : (a b : Bel) → Some a ≡ Some b → a ≡ b
    the_same a b e = cc
bel_inside (other ∷ bels) (suc place) bel is =
    omega (arith, bel_inside bels place bel is, sum_by-cons bits_of other bels, sum_by-cons bits_of other (take place bels))

pub kind_small : (kind : Kind) → bit_count kind ≤ 19
kind_small kinds.Lut4c = omega arith
kind_small kinds.Io = omega arith
kind_small kinds.Mux8 = omega arith

-- a BEL has at most 19 bits
pub before_small : (bels : List Bel) (place : ℕ) → bits_before bels place ≤ 19 * place
before_small [] zero = omega arith
before_small [] (suc place) = omega arith
before_small (bel ∷ bels) zero = omega arith
before_small (bel ∷ bels) (suc place) = omega (arith, kind_small bel.kind, before_small bels place, sum_by-cons bits_of bel (take place bels))

-- the field of a BEL that is there
pub field_there : (tile : PlainTile) (bel : ℕ) → bel < length tile.bels → (bel_field tile bel).0 ≡ bits_before tile.bels bel
field_there tile bel inside =
    let found = some_item tile.bels bel inside in
    let field : Option Bel → ℕ × ℕ = λ o. option_map_or (λ (b : Bel). (bits_before tile.bels bel, bit_count b.kind)) o (0, 0) in
    ap (λ o. (field o).0) found.1

-- two BELs have no bit in common
pub one_bel : (bels : List Bel) (a b : ℕ) (first second : Bel) (p q : ℕ) → slice_get bels a ≡ Some first → slice_get bels b ≡ Some second → p < bit_count first.kind → q < bit_count second.kind →
    bits_before bels a + p ≡ bits_before bels b + q → (a ≡ b) × (p ≡ q)
one_bel [] a b first second p q first_is second_is few_p few_q same = absurd cc
one_bel (other ∷ bels) zero zero first second p q first_is second_is few_p few_q same = (refl, omega (arith, same))
one_bel (other ∷ bels) zero (suc b) first second p q first_is second_is few_p few_q same =
    let here : bit_count other.kind ≡ bit_count first.kind = ap bits_of (same_bel other first first_is) in
    absurd (omega (arith, here, few_p, same, sum_by-cons bits_of other (take b bels)))
  where
    same_bel : (a b : Bel) → Some a ≡ Some b → a ≡ b
    same_bel a b e = cc
one_bel (other ∷ bels) (suc a) zero first second p q first_is second_is few_p few_q same =
    let here : bit_count other.kind ≡ bit_count second.kind = ap bits_of (same_bel other second second_is) in
    absurd (omega (arith, here, few_q, same, sum_by-cons bits_of other (take a bels)))
  where
    same_bel : (a b : Bel) → Some a ≡ Some b → a ≡ b
    same_bel a b e = cc
one_bel (other ∷ bels) (suc a) (suc b) first second p q first_is second_is few_p few_q same =
    let rest = one_bel bels a b first second p q first_is second_is few_p few_q (omega (arith, same, sum_by-cons bits_of other (take a bels), sum_by-cons bits_of other (take b bels))) in
    (ap suc rest.0, rest.1)

-- ---- fields of outputs

module _ (same : ℕ → ℕ → Bool) (tells : (a b : ℕ) → Decides (same a b) (a ≡ b)) where
  -- an output with an input is in the order
  pub ordered : (output : ℕ) (pairs : List (ℕ × ℕ)) → 0 < length (inputs_of same pairs output) → list_any (λ other. same other output) (in_order same pairs) ≡ true
  ordered output [] some = absurd (omega arith)
  ordered output (pair ∷ pairs) some =
      elim (told same tells pair.0 output) [
        | inl t ↦ rw t.0 refl
        | inr f ↦ (
            let rest : 0 < length (inputs_of same pairs output) = rw f.0 at some in
            rw f.0 (any_kept same tells (λ other. same other output) pair.0 (in_order same pairs) f.0 ∙ ordered output pairs rest))
      ]

  -- the sum of what stands before an output
  abbrev before : (widths : ℕ → ℕ) (order : List ℕ) (output : ℕ) → ℕ
  before widths order output = sum_by widths (take_while (λ other. not (same other output)) order)

  before_here : (widths : ℕ → ℕ) (other : ℕ) (order : List ℕ) (output : ℕ) → same other output ≡ true → before widths (other ∷ order) output ≡ 0
  before_here widths other order output here =
      ap (sum_by widths) (take_while-cons (λ o. not (same o output)) other order ∙ ap (λ b. cond (not b) (other ∷ take_while (λ o. not (same o output)) order) []) here)

  before_later : (widths : ℕ → ℕ) (other : ℕ) (order : List ℕ) (output : ℕ) → same other output ≡ false → before widths (other ∷ order) output ≡ widths other + before widths order output
  before_later widths other order output later =
      let rest = take_while (λ o. not (same o output)) order in
      ap (sum_by widths) (take_while-cons (λ o. not (same o output)) other order ∙ ap (λ b. cond (not b) (other ∷ rest) []) later) ∙ sum_by-cons widths other rest

  -- the sum before an output and its own lie within the whole sum
  sum_within : (widths : ℕ → ℕ) (output : ℕ) (order : List ℕ) → list_any (λ other. same other output) order ≡ true → before widths order output + widths output ≤ sum_by widths order
  sum_within widths output [] there = absurd (false≢true there)
  sum_within widths output (other ∷ order) there =
      let whole : sum_by widths (other ∷ order) ≡ widths other + sum_by widths order = sum_by-cons widths other order in
      elim (told same tells other output) [
        | inl t ↦ (
            let own : widths other ≡ widths output = ap widths t.1 in
            omega (arith, before_here widths other order output t.0))
        | inr f ↦ (
            let rest : list_any (λ o. same o output) order ≡ true = rw f.0 at there in
            omega (arith, before_later widths other order output f.0, sum_within widths output order rest))
      ]

  -- of two outputs one has its bits before the other
  sums_apart : (widths : ℕ → ℕ) (a b : ℕ) (order : List ℕ) → a ≢ b → list_any (λ other. same other a) order ≡ true → list_any (λ other. same other b) order ≡ true →
      (before widths order a + widths a ≤ before widths order b) ⊎ (before widths order b + widths b ≤ before widths order a)
  sums_apart widths a b [] differ has_a has_b = absurd (false≢true has_a)
  sums_apart widths a b (other ∷ order) differ has_a has_b =
      elim (told same tells other a) [
        | inl is_a ↦ elim (told same tells other b) [
          | inl is_b ↦ absurd (differ (sym is_a.1 ∙ is_b.1))
          | inr not_b ↦ (
              let own : widths other ≡ widths a = ap widths is_a.1 in
              inl (omega (arith, own, before_here widths other order a is_a.0, before_later widths other order b not_b.0)))
        ]
        | inr not_a ↦ elim (told same tells other b) [
          | inl is_b ↦ (
              let own : widths other ≡ widths b = ap widths is_b.1 in
              inr (omega (arith, own, before_here widths other order b is_b.0, before_later widths other order a not_a.0)))
          | inr not_b ↦ (
              let rest_a : list_any (λ o. same o a) order ≡ true = rw not_a.0 at has_a in
              let rest_b : list_any (λ o. same o b) order ≡ true = rw not_b.0 at has_b in
              elim (sums_apart widths a b order differ rest_a rest_b) [
                | inl less ↦ inl (omega (arith, less, before_later widths other order a not_a.0, before_later widths other order b not_b.0))
                | inr more ↦ inr (omega (arith, more, before_later widths other order a not_a.0, before_later widths other order b not_b.0))
              ])
        ]
      ]

-- ---- of a tile

no_width : select_width 0 ≡ 0
unfolding select_width
no_width = refl

-- an output with select bits has inputs
has_inputs : (tile : PlainTile) (output : ℕ) → 0 < field_width nat_eq (numbered_pairs tile) output → 0 < length (inputs_of nat_eq (numbered_pairs tile) output)
has_inputs tile output some =
    let n = length (inputs_of nat_eq (numbered_pairs tile) output) in
    elim (cases_lt 0 n) [
      | inl more ↦ more
      | inr none ↦ (
          let zero_is : n ≡ 0 = omega (arith, none) in
          absurd (omega (arith, some, ap select_width zero_is, no_width)))
    ]

record Placed (tile : PlainTile) (output : ℕ) : Type 0 where
  some : 0 < field_width nat_eq (numbered_pairs tile) output
  low : (output_field tile output).0 ≡ bel_bits tile + field_low nat_eq (numbered_pairs tile) output
  width : (output_field tile output).1 ≡ field_width nat_eq (numbered_pairs tile) output

-- the field of an output, if it has select bits
placed : (tile : PlainTile) (output : ℕ) → (((output_field tile output).0 ≡ 0) × ((output_field tile output).1 ≡ 0)) ⊎ Placed tile output
placed tile output =
    let width = field_width nat_eq (numbered_pairs tile) output in
    elim (cases_Bool (nat_eq width 0)) [
      | inl none ↦ inl (rw none refl, rw none refl)
      | inr some ↦ inr (record { some = grind (arith, some); low = rw some refl; width = rw some refl })
    ]

there : (tile : PlainTile) (output : ℕ) → Placed tile output → list_any (λ other. nat_eq other output) (in_order nat_eq (numbered_pairs tile)) ≡ true
there tile output is = ordered nat_eq Decides-eqb output (numbered_pairs tile) (has_inputs tile output is.some)

-- a field lies in the tile
pub field_fits : (tile : PlainTile) (output : ℕ) → (output_field tile output).0 + (output_field tile output).1 ≤ tile_bits tile
field_fits tile output =
    elim (placed tile output) [
      | inl none ↦ omega (arith, none.0, none.1)
      | inr is ↦ omega (arith, is.low, is.width, sum_within nat_eq Decides-eqb (field_width nat_eq (numbered_pairs tile)) output (in_order nat_eq (numbered_pairs tile)) (there tile output is))
    ]

-- behind the bits of the BELs
pub field_above : (tile : PlainTile) (output bit : ℕ) → (output_field tile output).0 ≤ bit → bit < (output_field tile output).0 + (output_field tile output).1 → bel_bits tile ≤ bit
field_above tile output bit above below =
    elim (placed tile output) [
      | inl none ↦ absurd (omega (arith, none.0, none.1, below))
      | inr is ↦ omega (arith, is.low, above)
    ]

-- two outputs have no bit in common
pub one_output : (tile : PlainTile) (a b bit : ℕ) → (output_field tile a).0 ≤ bit → bit < (output_field tile a).0 + (output_field tile a).1 →
    (output_field tile b).0 ≤ bit → bit < (output_field tile b).0 + (output_field tile b).1 → a ≡ b
one_output tile a b bit above_a below_a above_b below_b =
    elim (placed tile a) [
      | inl none ↦ absurd (omega (arith, none.0, none.1, below_a))
      | inr is_a ↦ elim (placed tile b) [
        | inl none ↦ absurd (omega (arith, none.0, none.1, below_b))
        | inr is_b ↦ elim (told nat_eq Decides-eqb a b) [
          | inl same ↦ same.1
          | inr differ ↦ elim (sums_apart nat_eq Decides-eqb (field_width nat_eq (numbered_pairs tile)) a b (in_order nat_eq (numbered_pairs tile)) differ.1 (there tile a is_a) (there tile b is_b)) [
            | inl less ↦ absurd (omega (arith, less, is_a.low, is_a.width, is_b.low, below_a, above_b))
            | inr more ↦ absurd (omega (arith, more, is_a.low, is_b.low, is_b.width, above_a, below_b))
          ]
        ]
      ]
    ]
