-- Sets of bits are added one after another.
use Rattle.std.proofs.Common.{◌≡◌, ◌⊎◌, ℕ, ◌+◌, ◌-◌, ◌<◌, Bool, true, false, List, take, ap, ◌∙◌, sym, subst, arith, inl, inr}
use Rattle.std.proofs.lemmas.Bool.{false≢true, cases_lt}
use Rattle.std.proofs.lemmas.Bool.Decides.{eqb_tells}
use Rattle.fab_model.specs.Grid.{PlainFabric}
use Rattle.fab_model.specs.Drive.{PlainBits}
use Rattle.fab_fabric.specs.Bits.{AreBitsOf, HasBit, SetsBit, plain_bits, bits_at}
use Rattle.fab_netlist.specs.Plain.{IsAt}
use Rattle.fab_netlist.specs.WellMade.{table_bit}
use Rattle.fab_legal.proofs.Members.{in_taken, stays_taken, last_taken}
use Rattle.fab_features.specs.inner.Adding.{Adds, BitSet, SomeOf, IsOneOf}
use Rattle.fab_features.specs.declared.ones.Ones.{Ones}

-- ---- in general

pub none_added : (bits : PlainBits) (Q : BitSet) → ((x y bit : ℕ) → Q x y bit → ⊥) → Adds bits bits Q
none_added bits Q none = record {
  kept = λ x y bit h. h;
  set = λ x y bit q. absurd (none x y bit q);
  no_others = λ x y bit h. inl h;
}

pub both_added : (a b c : PlainBits) (P Q : BitSet) → Adds a b P → Adds b c Q → Adds a c (λ x y bit. P x y bit ⊎ Q x y bit)
both_added a b c P Q first second = record {
  kept = λ x y bit h. second.kept x y bit (first.kept x y bit h);
  set = λ x y bit one. elim one [ inl p ↦ second.kept x y bit (first.set x y bit p) | inr q ↦ second.set x y bit q ];
  no_others = λ x y bit h.
      elim (second.no_others x y bit h) [
        | inl old ↦ elim (first.no_others x y bit old) [ inl older ↦ inl older | inr p ↦ inr (inl p) ]
        | inr q ↦ inr (inr q)
      ];
}

pub same_added : (a b : PlainBits) (P Q : BitSet) → ((x y bit : ℕ) → P x y bit → Q x y bit) → ((x y bit : ℕ) → Q x y bit → P x y bit) → Adds a b P → Adds a b Q
same_added a b P Q to from adds = record {
  kept = adds.kept;
  set = λ x y bit q. adds.set x y bit (from x y bit q);
  no_others = λ x y bit h. elim (adds.no_others x y bit h) [ inl old ↦ inl old | inr p ↦ inr (to x y bit p) ];
}

-- ---- items of a list

pub none_of : {X : Type 0} (IsOne : X → BitSet) (xs : List X) (bits : PlainBits) → Adds bits bits (SomeOf IsOne (take 0 xs))
none_of IsOne xs bits = none_added bits (SomeOf IsOne (take 0 xs)) (λ x y bit one. absurd (omega (arith, one.1.1)))

pub more_of : {X : Type 0} (IsOne : X → BitSet) (xs : List X) (n : ℕ) (item : X) (a b c : PlainBits) → IsAt xs n item →
    Adds a b (SomeOf IsOne (take n xs)) → Adds b c (IsOne item) → Adds a c (SomeOf IsOne (take (n + 1) xs))
more_of {X} IsOne xs n item a b c at first second =
    same_added a c (λ x y bit. SomeOf IsOne (take n xs) x y bit ⊎ IsOne item x y bit) (SomeOf IsOne (take (n + 1) xs))
    (λ x y bit one. elim one [ inl p ↦ (p.0, stays_taken xs n item p.0 at p.1, p.2) | inr q ↦ (item, last_taken xs n item at, q) ])
    (λ x y bit one.
    elim (in_taken xs n item one.0 at one.1) [
      | inl before ↦ inl (one.0, before, one.2)
      | inr e ↦ inr (subst (λ (i : X). IsOne i x y bit) (sym e) one.2)
    ])
    (both_added a b c (SomeOf IsOne (take n xs)) (IsOne item) first second)

-- ---- one bit

abbrev IsThis : (x y bit : ℕ) → BitSet
IsThis x y bit x2 y2 bit2 = (x2 ≡ x) × (y2 ≡ y) × (bit2 ≡ bit)

this_or_not : (x y bit x2 y2 bit2 : ℕ) → IsThis x y bit x2 y2 bit2 ⊎ (x2 ≡ x → y2 ≡ y → bit2 ≡ bit → ⊥)
this_or_not x y bit x2 y2 bit2 =
    elim (eqb_tells x2 x) [
      | inr f ↦ inr (λ a b c. f.1 a)
      | inl t ↦ (elim (eqb_tells y2 y) [
        | inr f ↦ inr (λ a b c. f.1 b)
        | inl u ↦ (elim (eqb_tells bit2 bit) [ inr f ↦ inr (λ a b c. f.1 c) | inl v ↦ inl (t.1, u.1, v.1) ])
      ])
    ]

set_adds : (old new : List (List (List Bool))) (x y bit : ℕ) → SetsBit old new x y bit true → Adds (plain_bits old) (plain_bits new) (IsThis x y bit)
set_adds old new x y bit sets =
    let here : (x2 y2 bit2 : ℕ) → IsThis x y bit x2 y2 bit2 → plain_bits new x2 y2 bit2 ≡ true =
    λ x2 y2 bit2 this. ap (λ n. plain_bits new n y2 bit2) this.0 ∙ ap (λ n. plain_bits new x n bit2) this.1 ∙ ap (λ n. plain_bits new x y n) this.2 ∙ sets.set in
    record {
      kept = λ x2 y2 bit2 h.
          elim (this_or_not x y bit x2 y2 bit2) [
            | inl this ↦ here x2 y2 bit2 this
            | inr other ↦ sets.kept x2 y2 bit2 other ∙ h
          ];
      set = here;
      no_others = λ x2 y2 bit2 h.
          elim (this_or_not x y bit x2 y2 bit2) [
            | inl this ↦ inr this
            | inr other ↦ inl (sym (sets.kept x2 y2 bit2 other) ∙ h)
          ];
    }

pub still_bits : (fabric : PlainFabric) (old new : List (List (List Bool))) (x y bit : ℕ) (value : Bool) → SetsBit old new x y bit value → AreBitsOf fabric old → AreBitsOf fabric new
still_bits fabric old new x y bit value sets are = record {
  columns = sets.same_columns ∙ are.columns;
  rows = λ x2 few. sets.same_rows x2 ∙ are.rows x2 few;
  tiles = λ x2 y2 few low. sets.same_tiles x2 y2 ∙ are.tiles x2 y2 few low;
}

-- ---- the bits of a value

abbrev pub first_ones : Ones → (width : ℕ) → Ones
first_ones ones width = record { x = ones.x; y = ones.y; low = ones.low; width = width; value = ones.value }

pub no_ones : (bits : PlainBits) (ones : Ones) → Adds bits bits (IsOneOf (first_ones ones 0))
no_ones bits ones = none_added bits (IsOneOf (first_ones ones 0)) (λ x y bit one. absurd (omega (arith, one.above, one.below)))

pub ones_more : (start : PlainBits) (old new : List (List (List Bool))) (ones : Ones) (place : ℕ) → table_bit ones.value place ≡ true →
    SetsBit old new ones.x ones.y (ones.low + place) true → Adds start (plain_bits old) (IsOneOf (first_ones ones place)) → Adds start (plain_bits new) (IsOneOf (first_ones ones (place + 1)))
ones_more start old new ones place one sets first =
    same_added start (plain_bits new) (λ x y bit. IsOneOf (first_ones ones place) x y bit ⊎ IsThis ones.x ones.y (ones.low + place) x y bit) (IsOneOf (first_ones ones (place + 1)))
    (λ x y bit either.
    elim either [
      | inl o ↦ record { x_is = o.x_is; y_is = o.y_is; above = o.above; below = omega (arith, o.below); one = o.one }
      | inr this ↦ (
          let back : bit - ones.low ≡ place = omega (arith, this.2) in
          record { x_is = this.0; y_is = this.1; above = omega (arith, this.2); below = omega (arith, this.2); one = ap (table_bit ones.value) back ∙ one })
    ])
    (λ x y bit o.
    elim (cases_lt bit (ones.low + place)) [
      | inl less ↦ inl (record { x_is = o.x_is; y_is = o.y_is; above = o.above; below = less; one = o.one })
      | inr past ↦ inr (o.x_is, o.y_is, omega (arith, past, o.below))
    ])
    (both_added start (plain_bits old) (plain_bits new) (IsOneOf (first_ones ones place)) (IsThis ones.x ones.y (ones.low + place)) first (set_adds old new ones.x ones.y (ones.low + place) sets))

pub ones_skip : (start now : PlainBits) (ones : Ones) (place : ℕ) → table_bit ones.value place ≡ false →
    Adds start now (IsOneOf (first_ones ones place)) → Adds start now (IsOneOf (first_ones ones (place + 1)))
ones_skip start now ones place zero first =
    same_added start now (IsOneOf (first_ones ones place)) (IsOneOf (first_ones ones (place + 1)))
    (λ x y bit o. record { x_is = o.x_is; y_is = o.y_is; above = o.above; below = omega (arith, o.below); one = o.one })
    (λ x y bit o.
    elim (cases_lt bit (ones.low + place)) [
      | inl less ↦ record { x_is = o.x_is; y_is = o.y_is; above = o.above; below = less; one = o.one }
      | inr past ↦ (
          let back : bit - ones.low ≡ place = omega (arith, past, o.below) in
          absurd (false≢true (sym zero ∙ sym (ap (table_bit ones.value) back) ∙ o.one)))
    ])
    first

pub ones_all : (start now : PlainBits) (ones : Ones) (place : ℕ) → place ≡ ones.width → Adds start now (IsOneOf (first_ones ones place)) → Adds start now (IsOneOf ones)
ones_all start now ones place all adds = subst (λ n. Adds start now (IsOneOf (first_ones ones n))) all adds

-- ---- a bit of a place is there

-- a place with bits is in the grid
pub in_grid : (fabric : PlainFabric) (x y : ℕ) → 0 < bits_at fabric x y → (x < fabric.columns) × (y < fabric.rows)
in_grid fabric x y some =
    elim (cases_lt x fabric.columns) [
      | inl few ↦ (elim (cases_lt y fabric.rows) [ inl low ↦ (few, low) | inr past ↦ absurd (grind (arith, some, past)) ])
      | inr past ↦ absurd (grind (arith, some, past))
    ]

pub bit_there : (fabric : PlainFabric) (bits : List (List (List Bool))) (x y bit : ℕ) → AreBitsOf fabric bits → bit < bits_at fabric x y → HasBit bits x y bit
bit_there fabric bits x y bit are within =
    let in_it = in_grid fabric x y (omega (arith, within)) in
    record {
      column = omega (arith, in_it.0, are.columns);
      row = omega (arith, in_it.1, are.rows x in_it.0);
      number = omega (arith, within, are.tiles x y in_it.0 in_it.1);
    }
