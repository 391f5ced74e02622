-- Points that have what other points have: these stand behind them.
use Rattle.std.proofs.Common.{◌≡◌, ℕ, zero, suc, ◌+◌, ◌<◌, Bool, true, false, List, [], ◌∷◌, length, slice_get, Option, Some, None, sym, ap, ◌∙◌, subst, inl, inr, arith}
use Rattle.std.specs.Prelude.{◌↔◌, ◌⊎◌, IsTrue}
use Rattle.std.proofs.lemmas.Option.{slice_get_within}
use Rattle.fab_syntax.specs.Declarations.{module_named, is_input_of}
use Rattle.fab_syntax.specs.Plain.{PlainExpr, PlainItem, wire, reg, assign, latch, clocked, instance, PlainModule}
use Rattle.fab_syntax.specs.Sound.{IsSound}
use Rattle.fab_meaning.specs.Points.{Path, Point, point, Driver, outside, copy, flop, JoinDrives, ItemDrives, Drives}
use Rattle.fab_meaning.specs.Reads.{is_declared, reads}
use Rattle.fab_meaning.specs.Runs.{clock_name}
use Rattle.fab_meaning.specs.Loading.{IsDerived, IsStream, Within, by_flop, by_stream, by_reads, IsClosed, IsLoading, write_strobe_name, write_data_name}
use Rattle.fab_meaning.proofs.Dependence.{same_point_refl, same_point_is}
use Rattle.fab_equations.specs.Equations.{IsPoint, IsDriven}
use Rattle.fab_equations.specs.declared.driver.Driver.TheVariants.{Outside, Same}
use Rattle.fab_equations.specs.Instances.{Instance, points}
use Rattle.fab_equations.specs.Numbering.{IsInstanceOfNumber}
use Rattle.fab_equations.proofs.Located.{found_within, points_next, points_rise}
use Rattle.fab_equations.proofs.Numbering.{child_at, same_value}
use Rattle.fab_equations.proofs.Paths.{paths_differ, top_path}
use Rattle.fab_equations.proofs.Points.{point_at}
use Rattle.fab_values.specs.Declarations.{declarations}
use Rattle.fab_load_points.specs.inner.Causes.{IsTopBit}
use Rattle.fab_load_points.specs.inner.Points.{AreMarkedFrom, IsPointMark}
use Rattle.fab_load_points.proofs.Names.{point_declared}
use Rattle.fab_load_points.proofs.Bits.{same_driver}
use Rattle.fab_load_points.proofs.TopBits.{carried, carries}
use Rattle.fab_load_points.proofs.Marking.{rightly_same, rightly_tested}

-- ---- a copy is of a point of an instance below

abbrev IsBelow : Path → Path → Type 0
IsBelow above below = (i : List ℕ) × (below ≡ i ∷ above)

join_below : (path : Path) (i : List ℕ) (input : Bool) (port : List ℕ) (to : Option PlainExpr) (p other : Point) → JoinDrives path i input port to p (copy other) →
    IsBelow p.path other.path
join_below path i true port None p other h = absurd h
join_below path i false port None p other h = absurd h
join_below path i true port (Some e) p other h = let apart = h.1 in cc
join_below path i false port (Some e) p other h =
    let copied = h.3 in
    let at : other ≡ point (i ∷ path) port p.bit = cc in
    (i, ap (λ (q : Point). q.path) at ∙ ap (λ (above : Path). i ∷ above) (sym (ap (λ (q : Point). q.path) h.2)))

item_below : (text : List PlainModule) (path : Path) (item : PlainItem) (p other : Point) → ItemDrives text path item p (copy other) → IsBelow p.path other.path
item_below text path (wire shape name) p other h = absurd h
item_below text path (reg shape name) p other h = absurd h
item_below text path (assign target e) p other h = let apart = h.1 in cc
item_below text path (latch target gate e) p other h = let apart = h.1 in cc
item_below text path (clocked clock target e) p other h = let apart = h.1 in cc
item_below text path (instance module_name i joins) p other h = join_below path i (is_input_of (module_named text module_name) h.0.port) h.0.port h.0.to p other h.2

copied_below : (text : List PlainModule) (p other : Point) → Drives text p (copy other) → IsBelow p.path other.path
copied_below text p other (inl h) = let apart = h.is in cc
copied_below text p other (inr h) = item_below text h.path h.item p other h.drives

module _ (text : List PlainModule) (sound : IsSound text) where
  not_top : (number : ℕ) (i : Instance) → IsInstanceOfNumber text number i → (name : List ℕ) (above : Path) → i.path ≡ name ∷ above → 0 < number
  not_top zero i is name above e = let top : i.path ≡ [] = top_path text i is in cc
  not_top (suc n) i is name above e = omega arith

  pub copies_are_behind : (number other : ℕ) (p q : Point) → IsPoint text number p → IsPoint text other q → Drives text p (copy q) → number < other
  copies_are_behind number other p q is is_other drives =
      let below = copied_below text p q drives in
      let a = point_at text sound number p is in
      let b = point_at text sound other q is_other in
      let inside : 0 < b.above = not_top b.above b.i b.is below.0 p.path (b.same ∙ below.1) in
      let child = child_at text sound b.above b.i b.is inside in
      let apart : child.child.name ∷ child.i.path ≡ below.0 ∷ p.path = sym child.named ∙ b.same ∙ below.1 in
      let up : child.i.path ≡ a.i.path = let paths : child.i.path ≡ p.path = cc in paths ∙ sym a.same in
      let same : child.above ≡ a.above = paths_differ text sound child.above a.above child.i a.i child.is a.is up in
      omega (
        arith,
        a.place,
        b.place,
        a.less,
        found_within 0 (declarations a.i.here) p.name a.local a.found,
        points_next text a.above a.i a.is,
        points_rise text (suc a.above) b.above (omega (arith, child.offset, same)),
      )

  -- ---- loading points among them

  pub copy_loads : (p q : Point) → is_declared text p ≡ true → Drives text p (copy q) → IsLoading text q → IsLoading text p
  copy_loads p q declared drives l =
      (l.0, l.1, by_reads (copy q) declared drives tt (λ r h. subst (Within text l.0) (same_point_is q r h) l.2))

  -- what drives a loading point
  module _ (flops : Point → Bool) (closed : IsClosed text flops) (p : Point) where
    copied_within : (q : Point) → Drives text p (copy q) → Within text flops p → Within text flops q
    copied_within q drives (by_flop declared f) =
        let at = closed p f in
        let apart : flop at.path at.clock at.next at.bit ≡ copy q = same_driver text sound p (flop at.path at.clock at.next at.bit) (copy q) at.drives drives in cc
    copied_within q drives (by_stream is) = let apart : outside ≡ copy q = same_driver text sound p outside (copy q) (inl is.input) drives in cc
    copied_within q drives (by_reads d declared driven derived inside) =
        let same : d ≡ copy q = same_driver text sound p d (copy q) driven drives in
        inside q (subst (λ (e : Driver). reads text e q ≡ true) (sym same) (same_point_refl q))

    input_within : Drives text p outside → Within text flops p → IsStream text p
    input_within drives (by_flop declared f) =
        let at = closed p f in
        let apart : flop at.path at.clock at.next at.bit ≡ outside = same_driver text sound p (flop at.path at.clock at.next at.bit) outside at.drives drives in cc
    input_within drives (by_stream is) = is
    input_within drives (by_reads d declared driven derived inside) =
        absurd (subst IsDerived (same_driver text sound p d outside driven drives) derived)

  pub copied_loads : (p q : Point) → Drives text p (copy q) → IsLoading text p → IsLoading text q
  copied_loads p q drives l = (l.0, l.1, copied_within l.0 l.1 p q drives l.2)

  -- an input of the top is a loading point where it is of the stream
  pub input_loads : (p : Point) → Drives text p outside → IsLoading text p → IsStream text p
  input_loads p drives l = input_within l.0 l.1 p drives l.2

-- ---- marks of points that have what is given to them

module _ (text : List PlainModule) (sound : IsSound text) (number : ℕ) where
  -- what a point of another point has
  pub same_marked : (other : ℕ) → IsDriven text number (Same other) → (marks : List Bool) (mark : Bool) → slice_get marks other ≡ Some mark →
      AreMarkedFrom text (number + 1) marks → IsPointMark text number mark
  same_marked other driven marks mark at behind p is =
      let m = driven.means in
      let q = m.0 in
      let same : driven.of ≡ p = same_value _ driven.of p driven.is is in
      let drives : Drives text p (copy q) = subst (λ (x : Point). Drives text x (copy q)) same (subst (Drives text driven.of) m.2 driven.drives) in
      let after = copies_are_behind text sound number other p q is m.1 drives in
      rightly_same mark (IsLoading text q) (IsLoading text p) (copy_loads text sound p q (point_declared text sound number p is) drives) (copied_loads text sound p q drives)
      (behind other mark (omega arith) at q m.1)

  pub same_within : (other : ℕ) → IsDriven text number (Same other) → other < length (points text)
  same_within other driven = slice_get_within (points text) other driven.means.0 driven.means.1

  -- what an input of the top has
  pub outside_marked : IsDriven text number Outside → (mark : Bool) → (IsTrue mark ↔ (IsTopBit text clock_name number ⊎ (IsTopBit text write_strobe_name number ⊎ IsTopBit text write_data_name number))) →
      IsPointMark text number mark
  outside_marked driven mark tested p is =
      let same : driven.of ≡ p = same_value _ driven.of p driven.is is in
      let drives : Drives text p outside = subst (λ (x : Point). Drives text x outside) same (subst (Drives text driven.of) driven.means driven.drives) in
      rightly_tested mark (IsLoading text p)
      (λ yes. (λ q. false, λ q f. cc, by_stream (carried text sound number p is drives (tested.0 yes))))
      (λ l. tested.1 (carries text sound number p is (input_loads text sound p drives l)))
