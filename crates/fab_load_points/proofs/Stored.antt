-- Flip-flops of CLK by numbers.
use Rattle.std.proofs.Common.{◌≡◌, ℕ, Bool, true, false, List, [], Option, Some, None, refl, sym, ◌∙◌, subst, inl, inr}
use Rattle.fab_syntax.specs.Declarations.{module_named, is_input_of}
use Rattle.fab_syntax.specs.Plain.{PlainExpr, PlainItem, wire, reg, assign, latch, clocked, instance, PlainModule}
use Rattle.fab_syntax.specs.Sound.{IsSound}
use Rattle.fab_meaning.specs.Points.{Path, Point, point, outside, copy, bit_of, flop, hold, JoinDrives, ItemDrives, Drives, Driver as MeantDriver}
use Rattle.fab_meaning.specs.Runs.{clock_of, clock_name}
use Rattle.fab_equations.specs.Equations.{IsPoint, IsDriven, Means}
use Rattle.fab_equations.proofs.Numbering.{same_value}
use Rattle.fab_equations.specs.declared.driver.Source.{Source}
use Rattle.fab_equations.specs.declared.driver.Driver.{Driver}
use Rattle.fab_equations.specs.declared.driver.Driver.TheVariants as by_number
use Rattle.fab_load_points.specs.inner.Causes.{StandsFor, IsFirstOf}
use Rattle.fab_load_points.specs.inner.Flops.{IsLoaderPoint}
use Rattle.fab_load_points.specs.inner.Points.{bit_driven}
use Rattle.fab_load_points.proofs.Reading.{means_so}
use Rattle.fab_load_points.proofs.Streams.{first_known}

-- ---- the bit that a flip-flop or a latch has

-- a driver of a bit of its own gives the bit of this number
abbrev HasBit : MeantDriver → ℕ → Type 0
HasBit outside b = Unit {0}
HasBit (copy other) b = Unit {0}
HasBit (bit_of path e bit) b = bit ≡ b
HasBit (flop path clock next bit) b = bit ≡ b
HasBit (hold path gate e bit) b = bit ≡ b

join_has_bit : (path : Path) (i : List ℕ) (input : Bool) (port : List ℕ) (to : Option PlainExpr) (p : Point) (d : MeantDriver) → JoinDrives path i input port to p d → HasBit d p.bit
join_has_bit path i true port None p d h = absurd h
join_has_bit path i false port None p d h = absurd h
join_has_bit path i true port (Some e) p d h = subst (λ x. HasBit x p.bit) (sym h.1) refl
join_has_bit path i false port (Some e) p d h = subst (λ x. HasBit x p.bit) (sym h.3) tt

item_has_bit : (text : List PlainModule) (path : Path) (item : PlainItem) (p : Point) (d : MeantDriver) → ItemDrives text path item p d → HasBit d p.bit
item_has_bit text path (wire shape name) p d h = absurd h
item_has_bit text path (reg shape name) p d h = absurd h
item_has_bit text path (assign target e) p d h = subst (λ x. HasBit x p.bit) (sym h.1) refl
item_has_bit text path (latch target gate e) p d h = subst (λ x. HasBit x p.bit) (sym h.1) refl
item_has_bit text path (clocked clock target e) p d h = subst (λ x. HasBit x p.bit) (sym h.1) refl
item_has_bit text path (instance module_name i joins) p d h = join_has_bit path i (is_input_of (module_named text module_name) h.0.port) h.0.port h.0.to p d h.2

has_bit : (text : List PlainModule) (p : Point) (d : MeantDriver) → Drives text p d → HasBit d p.bit
has_bit text p d (inl h) = subst (λ x. HasBit x p.bit) (sym h.is) tt
has_bit text p d (inr h) = item_has_bit text h.path h.item p d h.drives

-- ---- a flip-flop of CLK

module _ (text : List PlainModule) (sound : IsSound text) (number : ℕ) where
  -- no other driver by number is a flip-flop
  flop_means : (driver : Driver) (path : Path) (clock : List ℕ) (e : PlainExpr) (bit : ℕ) → Means text driver (flop path clock e bit) →
      (c : ℕ) × (next : Source) × (driver ≡ by_number.Flop c next)
  flop_means by_number.Outside path clock e bit m = cc
  flop_means (by_number.Same other) path clock e bit m = let apart = m.2 in cc
  flop_means (by_number.Value source) path clock e bit m = let apart = m.3 in cc
  flop_means (by_number.Flop c next) path clock e bit m = (c, next, refl)
  flop_means (by_number.Hold gate latched) path clock e bit m = let apart = m.6 in cc

  pub no_flop : (driver : Driver) → IsDriven text number driver → ((c : ℕ) (next : Source) → driver ≡ by_number.Flop c next → ⊥) →
      (p : Point) → StandsFor text number p → ¬ IsLoaderPoint text p
  no_flop driver driven not p stands l =
      let m = flop_means driver l.path l.clock l.next l.bit (means_so text sound number driver p (flop l.path l.clock l.next l.bit) driven stands.is l.drives) in
      not m.0 m.1 m.2

  module _ (clock : ℕ) (next : Source) (driven : IsDriven text number (by_number.Flop clock next)) (loader : Option ℕ) (first : IsFirstOf text [] clock_name loader) where
    pub loader_is : (p : Point) → StandsFor text number p → IsLoaderPoint text p → (next.bit ≡ 0) × (loader ≡ Some clock)
    loader_is p stands l =
        let meant = flop l.path l.clock l.next l.bit in
        let m = means_so text sound number (by_number.Flop clock next) p meant driven stands.is l.drives in
        let own : l.bit ≡ p.bit = has_bit text p meant l.drives in
        let same : meant ≡ flop m.0 m.1 m.2 next.bit = m.5 in
        let bits : l.bit ≡ next.bit = cc in
        let paths : l.path ≡ m.0 = cc in
        let clocks : l.clock ≡ m.1 = cc in
        let names : Some m.4.0 ≡ Some clock_name = sym m.4.1 ∙ (λ k. clock_of text (sym paths k) (sym clocks k)) ∙ l.clocked in
        let name : m.4.0 ≡ clock_name = cc in (
          sym bits ∙ own ∙ stands.first,
          first_known text sound [] clock_name loader first clock (subst (λ x. IsPoint text clock (point [] x 0)) name m.4.2),
        )

  -- ---- the drivers of points

  -- an expression of its own gives a point the bit of its number
  pub own_bit : (driver : Driver) → IsDriven text number driver → (bit : ℕ) → bit_driven driver ≡ Some bit → (p : Point) → IsPoint text number p → bit ≡ p.bit
  own_bit driver driven bit e p is =
      let at : driven.of ≡ p = same_value _ driven.of p driven.is is in
      at_driver driver driven.by driven.means (subst (λ (q : Point). HasBit driven.by q.bit) at (has_bit text driven.of driven.by driven.drives)) bit e
    where
      at_driver : (driver : Driver) (d : MeantDriver) → Means text driver d → HasBit d p.bit → (bit : ℕ) → bit_driven driver ≡ Some bit → bit ≡ p.bit
      at_driver by_number.Outside d m own bit e = cc
      at_driver (by_number.Same other) d m own bit e = cc
      at_driver (by_number.Value source) d m own bit e = let same : source.bit ≡ bit = cc in sym same ∙ subst (λ x. HasBit x p.bit) m.3 own
      at_driver (by_number.Flop clock next) d m own bit e = let same : next.bit ≡ bit = cc in sym same ∙ subst (λ x. HasBit x p.bit) m.5 own
      at_driver (by_number.Hold gate latched) d m own bit e = let same : latched.bit ≡ bit = cc in sym same ∙ subst (λ x. HasBit x p.bit) m.6 own
