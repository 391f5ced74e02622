-- The bits of a word are taken one after the other.
use Rattle.std.proofs.Common.{◌≡◌, ℕ, ◌+◌, ◌/◌, ◌%◌, ◌^◌, ◌<◌, ◌≤◌, Bool, true, false, ◌&&◌, not, is_some, nat_eq, List, Option, Some, None, length, refl, sym, ap, ◌∙◌, arith, inl, inr}
use Rattle.std.proofs.lemmas.Bool.{cases_lt}
use Rattle.std.proofs.lemmas.Option.{same_Some}
use Rattle.fab_model.specs.Grid.{PlainFabric}
use Rattle.fab_fabric.specs.Bits.{plain_bits, column_bits, place_bits, AreBitsOf, SetsBit}
use Rattle.fab_frames.specs.Positions.{bit_in}
use Rattle.fab_frames.specs.Stream.{word_bit, has_spare}
use Rattle.fab_frames.specs.inner.Taking.{IsOther, TakesBits}
use Rattle.fab_frames.specs.declared.positions.BitPlace.{BitPlace}
use Rattle.fab_frames.proofs.Numbers.{digit_at}
use Rattle.fab_frames.proofs.Words.{is_spare, no_spare, spare_at}

-- a bit of a word
pub word_bit_at : (word bit : ℕ) → bit < 32 → word_bit word bit ≡ nat_eq (word / 2 ^ bit % 2) 1
unfolding word_bit
word_bit_at word bit small = digit_at 32 word bit small

-- no configuration bit is placed twice
abbrev pub ArePlacedOnce : (placed : ℕ → Option BitPlace) → Type 0
ArePlacedOnce placed = (first second : ℕ) (at : BitPlace) → first < 32 → second < 32 → placed first ≡ Some at → placed second ≡ Some at → first ≡ second

-- the first n bits are taken, and none of them is spare
pub record IsTaken (placed : ℕ → Option BitPlace) (word n : ℕ) (old new : List (List (List Bool))) : Type 0 where
  pub same_columns : length new ≡ length old
  pub same_rows : (x : ℕ) → length (column_bits new x) ≡ length (column_bits old x)
  pub same_tiles : (x y : ℕ) → length (place_bits new x y) ≡ length (place_bits old x y)
  pub fine : (bit : ℕ) → bit < n → is_spare placed word bit ≡ false
  pub taken : (bit : ℕ) (at : BitPlace) → bit < n → placed bit ≡ Some at → bit_in (plain_bits new) at ≡ word_bit word bit
  pub kept : (at : BitPlace) → IsOther placed at → bit_in (plain_bits new) at ≡ bit_in (plain_bits old) at

pub none_taken : (placed : ℕ → Option BitPlace) (word : ℕ) (bits : List (List (List Bool))) → IsTaken placed word 0 bits bits
none_taken placed word bits = record {
  same_columns = refl;
  same_rows = λ x. refl;
  same_tiles = λ x y. refl;
  fine = λ bit few. absurd (omega (arith, few));
  taken = λ bit at few there. absurd (omega (arith, few));
  kept = λ at other. refl;
}

-- the bits are still those of the fabric
pub still_bits : (fabric : PlainFabric) (placed : ℕ → Option BitPlace) (word n : ℕ) (old new : List (List (List Bool))) → AreBitsOf fabric old → IsTaken placed word n old new → AreBitsOf fabric new
still_bits fabric placed word n old new are so_far = record {
  columns = so_far.same_columns ∙ are.columns;
  rows = λ x few. so_far.same_rows x ∙ are.rows x few;
  tiles = λ x y few low. so_far.same_tiles x y ∙ are.tiles x y few low;
}

-- ---- one bit more

not_spare : {X : Type 0} (placed : ℕ → Option X) (word n : ℕ) (x : X) → placed n ≡ Some x → is_spare placed word n ≡ false
not_spare placed word n x there =
    ap (λ o. word_bit word n && not (is_some o)) there ∙ elim (word_bit word n) as (λ b. (b && false) ≡ false) [ true ↦ refl | false ↦ refl ]

-- another bit than the one that is set
apart : (first second : BitPlace) → (first ≡ second → ⊥) → first.x ≡ second.x → first.y ≡ second.y → first.bit ≡ second.bit → ⊥
apart first second other x y bit = other (λ i. record { x = x i; y = y i; bit = bit i })

-- the last bit is set
pub bit_set : (placed : ℕ → Option BitPlace) (word n : ℕ) (at : BitPlace) (value : Bool) (old mid new : List (List (List Bool))) → n < 32 → ArePlacedOnce placed → placed n ≡ Some at →
    value ≡ word_bit word n → SetsBit mid new at.x at.y at.bit value → IsTaken placed word n old mid → IsTaken placed word (n + 1) old new
bit_set placed word n at value old mid new small once there value_is sets so_far =
    let kept : (other : BitPlace) → (other ≡ at → ⊥) → bit_in (plain_bits new) other ≡ bit_in (plain_bits mid) other = λ other differs.
    sets.kept other.x other.y other.bit (λ x y bit. apart other at differs x y bit) in
    record {
      same_columns = sets.same_columns ∙ so_far.same_columns;
      same_rows = λ x. sets.same_rows x ∙ so_far.same_rows x;
      same_tiles = λ x y. sets.same_tiles x y ∙ so_far.same_tiles x y;
      fine = λ bit few.
          elim (cases_lt bit n) [
            | inl less ↦ so_far.fine bit less
            | inr past ↦ (let last : bit ≡ n = omega (arith, few, past) in ap (is_spare placed word) last ∙ not_spare placed word n at there)
          ];
      taken = λ bit other few there2.
          elim (cases_lt bit n) [
            | inl less ↦ (
                let differs : other ≡ at → ⊥ = λ same. (
                let twice : bit ≡ n = once bit n at (omega (arith, less, small)) small (there2 ∙ ap Some same) there in
                omega (arith, twice, less)) in
                kept other differs ∙ so_far.taken bit other less there2)
            | inr past ↦ (
                let last : bit ≡ n = omega (arith, few, past) in
                let same : other ≡ at = same_Some other at (sym there2 ∙ ap placed last ∙ there) in
                ap (bit_in (plain_bits new)) same ∙ sets.set ∙ value_is ∙ ap (word_bit word) (sym last))
          ];
      kept = λ other is_other. kept other (λ same. is_other n small (there ∙ ap Some (sym same))) ∙ so_far.kept other is_other;
    }

-- the last bit is 0, and none is placed there
pub bit_passed : (placed : ℕ → Option BitPlace) (word n : ℕ) (value : Bool) (old new : List (List (List Bool))) → placed n ≡ None → value ≡ word_bit word n → value ≡ false → IsTaken placed word n old new →
    IsTaken placed word (n + 1) old new
bit_passed placed word n value old new there value_is zero_is so_far = record {
  same_columns = so_far.same_columns;
  same_rows = so_far.same_rows;
  same_tiles = so_far.same_tiles;
  fine = λ bit few.
      elim (cases_lt bit n) [
        | inl less ↦ so_far.fine bit less
        | inr past ↦ (
            let last : bit ≡ n = omega (arith, few, past) in
            ap (is_spare placed word) last ∙ ap (λ b. b && not (is_some (placed n))) (sym value_is ∙ zero_is))
      ];
  taken = λ bit at few there2.
      elim (cases_lt bit n) [
        | inl less ↦ so_far.taken bit at less there2
        | inr past ↦ (
            let last : bit ≡ n = omega (arith, few, past) in
            let none : None ≡ Some at = sym there ∙ ap placed (sym last) ∙ there2 in
            cc)
      ];
  kept = so_far.kept;
}

-- ---- all bits

-- a bit that is 1 where none is placed
pub spare_found : (placed : ℕ → Option BitPlace) (word n : ℕ) (value : Bool) → n < 32 → placed n ≡ None → value ≡ word_bit word n → value ≡ true → has_spare placed word ≡ true
spare_found placed word n value small is value_is one =
    let there : is_spare placed word n ≡ true = (λ i. (sym value_is ∙ one) i && not (is_some (is i))) in
    spare_at placed word n small there

pub none_spare : (placed : ℕ → Option BitPlace) (word n : ℕ) (old new : List (List (List Bool))) → 32 ≤ n → IsTaken placed word n old new → has_spare placed word ≡ false
none_spare placed word n old new all is = no_spare placed word (λ bit small. is.fine bit (omega (arith, small, all)))

pub all_taken : (placed : ℕ → Option BitPlace) (word n : ℕ) (old new : List (List (List Bool))) → 32 ≤ n → IsTaken placed word n old new → TakesBits placed word old new
all_taken placed word n old new all is = record {
  same_columns = is.same_columns;
  same_rows = is.same_rows;
  same_tiles = is.same_tiles;
  taken = λ bit at small there. is.taken bit at (omega (arith, small, all)) there;
  kept = is.kept;
}
