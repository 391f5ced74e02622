-- Each driver of the inner text, as a driver of the outer one, gives and keeps the same.
use Rattle.std.proofs.Common.{◌≡◌, ℕ, Bool, true, false, ◌&&◌, List, [], ◌∷◌, Option, Some, None, if◌then◌else◌, refl, sym, ap, ap₂, ◌∙◌, subst, inl, inr, nat_lt}
use Rattle.std.specs.Cmp.Lexicographic.{pointwise_decides}
use Rattle.std.proofs.lemmas.Bool.{false≢true, and_parts, or_cases, or_left, or_right}
use Rattle.std.proofs.lemmas.List.Elements.{All-contains}
use Rattle.std.proofs.lemmas.Slice.Eq.{bytes_eq-Decides}
use Rattle.fab_bits.specs.Bits.{first_bits}
use Rattle.fab_syntax.specs.Plain.{PlainExpr, PlainItem, wire, reg, assign, latch, clocked, instance, PlainModule}
use Rattle.fab_syntax.specs.Declarations.{module_named, is_input_of, width_in}
use Rattle.fab_meaning.specs.Value.{value, bit_at}
use Rattle.fab_meaning.specs.Points.{Path, Point, point, Driver, outside, copy, bit_of, flop, hold, JoinDrives, ItemDrives, IsDrivenByItem, Drives, module_at}
use Rattle.fab_meaning.specs.Settled.{Assignment, names_at, shown}
use Rattle.fab_meaning.specs.Runs.{kept}
use Rattle.fab_meaning.specs.Reads.{mentions, same_path, is_declared, expression_reads, reads, next_reads}
use Rattle.fab_meaning.specs.Loading.{IsDerived}
use Rattle.fab_meaning.proofs.Dependence.{value_same, same_path_refl, same_point_refl, same_point_is}
use Rattle.fab_nested_laws.specs.Nested.{path_in, inside, within, NamesAlike, StandsIn, IsSameClock, IsShown, IsKept, IsNested}
use Rattle.fab_nested_laws.specs.Together.{is_among, kept_together, TicksAs, IsKeptTogether, NestedTicksTogether}
use Rattle.fab_nested_laws.proofs.Stands.{items_alike, module_inside, same_module}
use Rattle.fab_nested_laws.proofs.Clocks.{same_clock, same_ticks}

-- a driver of the inner text in the outer one
abbrev pub lifted : (i : List ℕ) → Driver → Driver
lifted i outside = outside
lifted i (copy other) = copy (inside i other)
lifted i (bit_of path e bit) = bit_of (path_in i path) e bit
lifted i (flop path clock next bit) = flop (path_in i path) clock next bit
lifted i (hold path gate e bit) = hold (path_in i path) gate e bit

-- a module stands at the path
pub record IsPlace (text : List PlainModule) (path : Path) : Type 0 where
  pub here : PlainModule
  pub stands : module_at text path ≡ Some here

-- a driver that an item is, of some module of the text
abbrev pub HasPlace : List PlainModule → Driver → Type 0
HasPlace text outside = ⊥
HasPlace text (copy other) = Unit {0}
HasPlace text (bit_of path e bit) = IsPlace text path
HasPlace text (flop path clock next bit) = IsPlace text path
HasPlace text (hold path gate e bit) = IsPlace text path

pub derived_lifted : (i : List ℕ) (d : Driver) → IsDerived d → IsDerived (lifted i d)
derived_lifted i outside derived = derived
derived_lifted i (copy other) derived = tt
derived_lifted i (bit_of path e bit) derived = tt
derived_lifted i (flop path clock next bit) derived = derived
derived_lifted i (hold path gate e bit) derived = tt

-- the point of the inner text that a read point is
pub record IsReadInside (i : List ℕ) (q : Point) (read : Point → Bool) : Type 0 where
  pub front : Point
  pub is_read : read front ≡ true
  pub is : inside i front ≡ q

-- what is no input of the top is none of the clocks
none_among : (clocks : List (List ℕ)) → is_among clocks None ≡ false
none_among [] = refl
none_among (clock ∷ clocks) = none_among clocks

module _ (inner outer : List PlainModule) (i : List ℕ) (stands : StandsIn inner outer i) where
  -- ---- values

  names_inside : (now : Assignment) (path : Path) → IsPlace inner path → (name : List ℕ) → names_at outer now (path_in i path) name ≡ names_at inner (within i now) path name
  names_inside now path place name =
      ap (λ o. first_bits (width_in o name) (λ bit. now (point (path_in i path) name bit))) (same_module inner outer i stands path place.here place.stands)

  value_inside : (now : Assignment) (path : Path) → IsPlace inner path → (e : PlainExpr) →
      value (names_at outer now (path_in i path)) e ≡ value (names_at inner (within i now) path) e
  value_inside now path place e =
      value_same (names_at outer now (path_in i path)) (names_at inner (within i now) path) e (λ name mentioned. names_inside now path place name)

  pub shown_inside : (inputs held now : Assignment) (p : Point) (d : Driver) → HasPlace inner d →
      shown outer inputs held now (inside i p) (lifted i d) ≡ shown inner (within i now) (within i held) (within i now) p d
  shown_inside inputs held now p outside place = absurd place
  shown_inside inputs held now p (copy other) place = refl
  shown_inside inputs held now p (bit_of path e bit) place = ap (λ bits. bit_at bits bit) (value_inside now path place e)
  shown_inside inputs held now p (flop path clock next bit) place = refl
  shown_inside inputs held now p (hold path gate e bit) place =
      ap₂ (λ gate_bits bits. if bit_at gate_bits 0 then bit_at bits bit else held (inside i p)) (value_inside now path place gate) (value_inside now path place e)

  pub kept_inside : (clock : List ℕ) → IsSameClock inner outer i clock → (held now : Assignment) (p : Point) (d : Driver) → HasPlace inner d →
      kept outer clock held now (inside i p) (lifted i d) ≡ kept inner clock (within i held) (within i now) p d
  kept_inside clock same held now p outside place = absurd place
  kept_inside clock same held now p (copy other) place = refl
  kept_inside clock same held now p (bit_of path e bit) place = refl
  kept_inside clock same held now p (flop path own next bit) place =
      ap₂ (λ (ticks : Bool) bits. if ticks then bit_at bits bit else held (inside i p)) (same_clock inner outer i stands clock same path place.here own place.stands)
      (value_inside now path place next)
  kept_inside clock same held now p (hold path gate e bit) place = refl

  pub kept_together_inside : (clock : List ℕ) (clocks : List (List ℕ)) → TicksAs inner outer i clock clocks → (held now : Assignment) (p : Point) (d : Driver) → HasPlace inner d →
      kept outer clock held now (inside i p) (lifted i d) ≡ kept_together inner clocks (within i held) (within i now) p d
  kept_together_inside clock clocks same held now p outside place = absurd place
  kept_together_inside clock clocks same held now p (copy other) place = refl
  kept_together_inside clock clocks same held now p (bit_of path e bit) place = refl
  kept_together_inside clock clocks same held now p (flop path own next bit) place =
      ap₂ (λ (ticks : Bool) bits. if ticks then bit_at bits bit else held (inside i p))
      (same_ticks inner outer i stands clock (is_among clocks) (none_among clocks) same path place.here own place.stands) (value_inside now path place next)
  kept_together_inside clock clocks same held now p (hold path gate e bit) place = refl

  -- ---- reads

  expression_inside : (path : Path) → IsPlace inner path → (e : PlainExpr) (q : Point) → expression_reads outer (path_in i path) e q ≡ true →
      IsReadInside i q (expression_reads inner path e)
  expression_inside path place e q read =
      let both = and_parts (same_path (path_in i path) q.path) (mentions e q.name && is_declared outer q) read in
      let parts = and_parts (mentions e q.name) (is_declared outer q) both.1 in
      let at : path_in i path ≡ q.path = (pointwise_decides bytes_eq-Decides (path_in i path) q.path).0 both.0 in
      let declared : nat_lt q.bit (width_in (module_at inner path) q.name) ≡ true =
      ap (λ o. nat_lt q.bit (width_in o q.name)) (sym (same_module inner outer i stands path place.here place.stands))
      ∙ ap (λ there. nat_lt q.bit (width_in (module_at outer there) q.name)) at ∙ parts.1 in
      record { front = point path q.name q.bit; is_read = rw (same_path_refl path, parts.0, declared) refl; is = ap (λ there. point there q.name q.bit) at }

  pub reads_inside : (d : Driver) (q : Point) → HasPlace inner d → reads outer (lifted i d) q ≡ true → IsReadInside i q (reads inner d)
  reads_inside outside q place read = absurd place
  reads_inside (copy other) q place read = record { front = other; is_read = same_point_refl other; is = same_point_is (inside i other) q read }
  reads_inside (bit_of path e bit) q place read = expression_inside path place e q read
  reads_inside (flop path clock next bit) q place read = absurd (false≢true read)
  reads_inside (hold path gate e bit) q place read =
      elim (or_cases (expression_reads outer (path_in i path) gate q) (expression_reads outer (path_in i path) e q) read) [
        | inl by_gate ↦ (
            let r = expression_inside path place gate q by_gate in
            record { front = r.front; is_read = or_left (expression_reads inner path gate r.front) (expression_reads inner path e r.front) r.is_read; is = r.is })
        | inr by_data ↦ (
            let r = expression_inside path place e q by_data in
            record { front = r.front; is_read = or_right (expression_reads inner path gate r.front) (expression_reads inner path e r.front) r.is_read; is = r.is })
      ]

  pub next_inside : (d : Driver) (q : Point) → HasPlace inner d → next_reads outer (lifted i d) q ≡ true → IsReadInside i q (next_reads inner d)
  next_inside (flop path clock next bit) q place read = expression_inside path place next q read
  next_inside outside q place read = absurd place
  next_inside (copy other) q place read = absurd (false≢true read)
  next_inside (bit_of path e bit) q place read = absurd (false≢true read)
  next_inside (hold path gate e bit) q place read = absurd (false≢true read)

  -- ---- drivers

  module _ (path : Path) (place : IsPlace inner path) where
    join_lifted : (j port : List ℕ) (input : Bool) (to : Option PlainExpr) (p : Point) (d : Driver) → JoinDrives path j input port to p d →
        HasPlace inner d × JoinDrives (path_in i path) j input port to (inside i p) (lifted i d)
    join_lifted j port input None p d drives = absurd drives
    join_lifted j port true (Some e) p d drives = (subst (HasPlace inner) (sym drives.1) place, (ap (inside i) drives.0, ap (lifted i) drives.1))
    join_lifted j port false (Some e) p d drives =
        (subst (HasPlace inner) (sym drives.3) tt, (drives.0, drives.1, ap (inside i) drives.2, ap (lifted i) drives.3))

    item_lifted : (item : PlainItem) → NamesAlike inner outer item → (p : Point) (d : Driver) → ItemDrives inner path item p d →
        HasPlace inner d × ItemDrives outer (path_in i path) item (inside i p) (lifted i d)
    item_lifted (wire shape name) alike p d drives = absurd drives
    item_lifted (reg shape name) alike p d drives = absurd drives
    item_lifted (assign target e) alike p d drives = (subst (HasPlace inner) (sym drives.1) place, (ap (inside i) drives.0, ap (lifted i) drives.1))
    item_lifted (latch target gate e) alike p d drives = (subst (HasPlace inner) (sym drives.1) place, (ap (inside i) drives.0, ap (lifted i) drives.1))
    item_lifted (clocked clock target e) alike p d drives = (subst (HasPlace inner) (sym drives.1) place, (ap (inside i) drives.0, ap (lifted i) drives.1))
    item_lifted (instance module_name j joins) alike p d (join, among, drives) =
        let there = join_lifted j join.port (is_input_of (module_named inner module_name) join.port) join.to p d drives in (
          there.0,
          (
            join,
            among,
            subst (λ o. JoinDrives (path_in i path) j (is_input_of o join.port) join.port join.to (inside i p) (lifted i d)) (sym alike) there.1,
          ),
        )

  -- what an item of the inner text drives, it drives in the outer one
  pub driven_inside : (p : Point) (d : Driver) → IsDrivenByItem inner p d → HasPlace inner d × Drives outer (inside i p) (lifted i d)
  driven_inside p d by =
      let alike : NamesAlike inner outer by.item =
      All-contains (NamesAlike inner outer) by.module_here.items by.item (items_alike inner outer i stands by.path by.module_here by.stands) by.holds in
      let there = item_lifted by.path (record { here = by.module_here; stands = by.stands }) by.item alike p d by.drives in (
        there.0,
        inr (record {
          path = path_in i by.path;
          module_here = by.module_here;
          item = by.item;
          stands = module_inside inner outer i stands by.path by.module_here by.stands;
          holds = by.holds;
          drives = there.1;
        }),
      )

  -- ---- the law

  settles : (inputs held now : Assignment) (p : Point) → IsShown outer inputs held now (inside i p) → IsShown inner (within i now) (within i held) (within i now) p
  settles inputs held now p settled d (inl out) =
      subst (λ e. within i now p ≡ shown inner (within i now) (within i held) (within i now) p e) (sym out.is) refl
  settles inputs held now p settled d (inr by) =
      let there = driven_inside p d by in settled (lifted i d) there.1 ∙ shown_inside inputs held now p d there.0

  -- an input of the inner top is joined, and so it keeps what it held
  input_kept : (clock : List ℕ) (held now next : Assignment) (p : Point) → p.path ≡ [] → is_input_of (module_at inner []) p.name ≡ true →
      IsKept outer clock held now next (inside i p) → within i next p ≡ within i held p
  input_kept clock held now next p top input ticks =
      let join = stands.joined p.name p.bit input in
      ticks (bit_of [] join.0 p.bit) (subst (λ path. Drives outer (point (path_in i path) p.name p.bit) (bit_of [] join.0 p.bit)) (sym top) join.1)

  ticks : (clock : List ℕ) (held now next : Assignment) → IsSameClock inner outer i clock → (p : Point) → IsKept outer clock held now next (inside i p) →
      IsKept inner clock (within i held) (within i now) (within i next) p
  ticks clock held now next same p kept_there d (inl out) =
      subst (λ e. within i next p ≡ kept inner clock (within i held) (within i now) p e) (sym out.is) (input_kept clock held now next p out.top out.input kept_there)
  ticks clock held now next same p kept_there d (inr by) =
      let there = driven_inside p d by in kept_there (lifted i d) there.1 ∙ kept_inside clock same held now p d there.0

  together : (clock : List ℕ) (clocks : List (List ℕ)) (held now next : Assignment) → TicksAs inner outer i clock clocks → (p : Point) →
      IsKept outer clock held now next (inside i p) → IsKeptTogether inner clocks (within i held) (within i now) (within i next) p
  together clock clocks held now next same p kept_there d (inl out) =
      subst (λ e. within i next p ≡ kept_together inner clocks (within i held) (within i now) p e) (sym out.is) (input_kept clock held now next p out.top out.input kept_there)
  together clock clocks held now next same p kept_there d (inr by) =
      let there = driven_inside p d by in kept_there (lifted i d) there.1 ∙ kept_together_inside clock clocks same held now p d there.0

  pub nested : IsNested inner outer i
  nested = record { settles = settles; ticks = ticks }

pub nested_ticks_together : NestedTicksTogether
nested_ticks_together inner outer i stands clock clocks held now next same p kept_there = together inner outer i stands clock clocks held now next same p kept_there
