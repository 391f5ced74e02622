-- What drives a bit of a declared name: what the table of its module says of the name.
use Rattle.std.proofs.Common.{◌≡◌, ℕ, ◌+◌, ◌-◌, ◌<◌, ◌^◌, min, true, false, Bool, List, [], ◌∷◌, length, slice_get, get_or, All, Option, Some, refl, sym, ap, subst, ◌∙◌, inl, inr, arith}
use Rattle.std.specs.Str.{bytes_eq}
use Rattle.std.proofs.lemmas.Bool.{cases_Bool}
use Rattle.std.proofs.lemmas.Option.{slice_get_within, slice_get_read}
use Rattle.fab_syntax.specs.Declarations.{declared_shape, is_input, is_input_of, module_named, width, width_if_any}
use Rattle.fab_syntax.specs.declared.tree.Port.{Port}
use Rattle.fab_syntax.specs.Plain.{PlainExpr, variable, PlainItem, assign, latch, clocked, instance, PlainModule}
use Rattle.fab_syntax.specs.Sound.{ServesAsClock, ticks, IsScalarInput, ClockFits, FitsPort, JoinFits, IsJoinedOnce, InstanceFits, port_named, width_of_name, IsSound}
use Rattle.fab_values.specs.fab_meaning.specs.Points.{Path, Point, point, module_at, outside, copy, bit_of, flop, hold, JoinDrives}
use Rattle.fab_values.specs.fab_meaning.proofs.Modules.{all_holds, module_at_holds}
use Rattle.fab_values.specs.fab_meaning.proofs.SoundTexts.{some_value, instances_fit}
use Rattle.fab_values.specs.Declarations.{Declaration, declarations, found_in}
use Rattle.fab_equations.specs.Children.{Child, children}
use Rattle.fab_equations.specs.Instances.{Instance, instances, points, expressions}
use Rattle.fab_equations.specs.Numbering.{IsInstanceOfNumber, offset_in}
use Rattle.fab_equations.specs.Tables.{IsExpression, DrivesName, IsDrivenByChild}
use Rattle.fab_equations.specs.Equations.{IsPoint, IsSource, IsClockPoint, IsDriven}
use Rattle.fab_equations.specs.Lookups.{IsHere, IsBit, IsInput, IsJoinedAbove, IsClock, HasChild, IsChild}
use Rattle.fab_equations.specs.declared.lookups.Here.{Here}
use Rattle.fab_equations.specs.declared.lookups.LocalBit.{LocalBit}
use Rattle.fab_equations.specs.declared.driver.Source.{Source}
use Rattle.fab_equations.specs.declared.driver.Driver.TheVariants as given
use Rattle.fab_equations.specs.declared.tables.LocalDriver.{LocalDriver}
use Rattle.fab_equations.specs.declared.tables.LocalDriver.TheVariants as local
use Rattle.fab_equations.specs.declared.tables.ChildTable.{ChildTable}
use Rattle.fab_equations.proofs.Numbering.{same_value, instances_stand, children_follow}
use Rattle.fab_equations.proofs.Standing.{child_item}
use Rattle.fab_equations.proofs.Paths.{top_path}
use Rattle.fab_equations.proofs.Places.{names_have_points}
use Rattle.fab_equations.proofs.Points.{named_once, found_width}
use Rattle.fab_equations.proofs.Located.{found_declared, first_there}
use Rattle.fab_equations.proofs.Joined.{role_of_input}
use Rattle.fab_equations.proofs.Clocked.{declared_under}

-- ---- the child of a number

module _ (text : List PlainModule) (number place : ℕ) (has : HasChild text number place) (here : Here) (is : IsHere text number here) where
  same_here : is.placed.i ≡ has.i
  same_here = same_value (slice_get (instances text) number) is.placed.i has.i is.placed.is has.is

  pub place_within : place < length here.table.now.children.items
  place_within = omega (arith, has.within, is.table.children_count, ap (λ (i : Instance). length (children i.here.items)) same_here)

  -- where the child stands
  pub record StandsThere (offset : ℕ) : Type 0 where
    pub child : IsChild text number place (number + offset)
    pub small : number + offset < 4294967296

  pub child_there : (table : ChildTable) → table ≡ get_or here.table.now.children.items place table → StandsThere table.offset
  child_there table read =
      let i = is.placed.i in
      let tables = here.table.now.children.items in
      let at = slice_get_read tables (length tables) place table refl place_within read in
      let t = is.table.children_fit place table at in
      let follows = children_follow text is.sound number i is.placed.is place (omega (arith, place_within, is.table.children_count)) in
      let within = slice_get_within (instances text) (number + offset_in text i place) follows.0 follows.1 in
      let short : offset_in text i place < 16777217 = omega (arith, within, is.small) in
      let full : table.offset ≡ min (offset_in text i place) (2 ^ 64 - 1) = t.offset in
      let offset : table.offset ≡ offset_in text i place = omega (arith, full, short) in
      record {
        child = record {
          i = i;
          is = is.placed.is;
          below = follows.0;
          below_is = ap (λ n. slice_get (instances text) (number + n)) offset ∙ follows.1;
          of = follows.2;
        };
        small = omega (arith, offset, within, is.small);
      }

-- ---- ports

pub port_input : (ports : List Port) (name : List ℕ) (port : Port) → port_named ports name ≡ Some port → is_input ports name ≡ port.input
port_input [] name port e = cc
port_input (first ∷ ports) name port e =
    elim (cases_Bool (bytes_eq first.name name)) [
      | inl t ↦ (let found : port_named (first ∷ ports) name ≡ Some first = rw t refl in
          let same : first ≡ port = same_value (port_named (first ∷ ports) name) first port found e in
          rw t (ap (λ (p : Port). p.input) same))
      | inr f ↦ (let passed : port_named (first ∷ ports) name ≡ port_named ports name = rw f refl in
          rw f (port_input ports name port (sym passed ∙ e)))
    ]

pub port_shape : (ports : List Port) (items : List PlainItem) (name : List ℕ) (port : Port) → port_named ports name ≡ Some port → declared_shape ports items name ≡ Some port.shape
port_shape [] items name port e = cc
port_shape (first ∷ ports) items name port e =
    elim (cases_Bool (bytes_eq first.name name)) [
      | inl t ↦ (let found : port_named (first ∷ ports) name ≡ Some first = rw t refl in
          let same : first ≡ port = same_value (port_named (first ∷ ports) name) first port found e in
          rw t (ap (λ (p : Port). Some p.shape) same))
      | inr f ↦ (let passed : port_named (first ∷ ports) name ≡ port_named ports name = rw f refl in
          rw f (port_shape ports items name port (sym passed ∙ e)))
    ]

-- an output port is as wide as the name that it drives
output_wide : (text : List PlainModule) → IsSound text → (path : Path) (m : PlainModule) → module_at text path ≡ Some m → (name : List ℕ) (number place : ℕ) →
    (by : IsDrivenByChild text m name number place) → width_of_name m name ≡ width by.local.shape
output_wide text sound path m stands name number place by =
    let child = by.child in
    let item = child_item m.items number child by.is in
    let Fits : PlainModule → Type 0 = λ b. All (JoinFits m b) child.joins × All (IsJoinedOnce child.joins) b.ports in
    let all = module_at_holds (λ (n : PlainModule). All (InstanceFits text n) n.items) text path m (instances_fit text sound.instances) stands in
    let fits = all_holds (InstanceFits text m) m.items (instance child.module_name child.name child.joins) all item in
    let below = some_value (module_named text child.module_name) Fits fits in
    let same : below.0 ≡ by.below = same_value (module_named text child.module_name) below.0 by.below below.1 by.stands in
    let join : JoinFits m by.below by.join = subst (λ (b : PlainModule). JoinFits m b by.join) same (all_holds (JoinFits m below.0) child.joins by.join below.2.0 by.holds) in
    let port = some_value (port_named by.below.ports by.join.port) (λ (p : Port). FitsPort m p.input (width p.shape) by.join.to) join in
    let output : port.0.input ≡ false = sym (port_input by.below.ports by.join.port port.0 port.1) ∙ by.output in
    let wide : FitsPort m false (width port.0.shape) (Some (variable name)) =
    subst (λ (to : Option PlainExpr). FitsPort m false (width port.0.shape) to) by.joined
    (subst (λ (input : Bool). FitsPort m input (width port.0.shape) by.join.to) output port.2) in
    let shape = port_shape by.below.ports by.below.items by.join.port port.0 port.1 in
    wide ∙ sym (ap width_if_any shape) ∙ found_width by.below by.join.port by.local by.declares

-- ---- a bit of a declared name

module _ (text : List PlainModule) (number : ℕ) (bit : LocalBit) (is : IsBit text number bit) (here : Here) (kept : IsHere text bit.instance here) where
  same_bit : kept.placed.i ≡ is.i
  same_bit = same_value (slice_get (instances text) bit.instance) kept.placed.i is.i kept.placed.is is.is

  at_path : module_at text is.i.path ≡ Some is.i.here
  at_path = (instances_stand text kept.sound bit.instance is.i is.is).0

  the_point : Point
  the_point = point is.i.path is.d.name bit.bit

  pub named_so : (driver : LocalDriver) → driver ≡ get_or here.table.now.drivers.items bit.declared driver → (same : LocalDriver) → driver ≡ same → DrivesName text is.i.here is.d.name same
  named_so driver read same is_so =
      let there : slice_get (declarations kept.placed.i.here) bit.declared ≡ Some is.d = ap (λ (i : Instance). slice_get (declarations i.here) bit.declared) same_bit ∙ is.declares in
      let t = kept.table.drivers bit.declared is.d there in
      let drivers = here.table.now.drivers.items in
      let at = slice_get_read drivers (length drivers) bit.declared driver refl (slice_get_within drivers bit.declared t.0 t.1) read in
      let one : t.0 ≡ same = same_value (slice_get drivers bit.declared) t.0 driver t.1 at ∙ is_so in
      subst (λ (i : Instance). DrivesName text i.here is.d.name same) same_bit (subst (DrivesName text kept.placed.i.here is.d.name) one t.2)

  source_here : (expr : ℕ) (e : PlainExpr) → IsExpression text expr e → (b : ℕ) → IsSource text (record { instance = bit.instance; expr = expr; bit = b }) is.i.path e
  source_here expr e there b = record { i = is.i; instance_is = is.is; at = refl; expression = there }

  pub value_drives : (expr : ℕ) → DrivesName text is.i.here is.d.name (local.Value expr) →
      IsDriven text number (given.Value (record { instance = bit.instance; expr = expr; bit = bit.bit }))
  value_drives expr (e, there, item) = record {
    of = point is.i.path is.d.name bit.bit;
    is = is.point_is;
    by = bit_of is.i.path e bit.bit;
    means = (is.i.path, e, source_here expr e there bit.bit, refl);
    drives = inr (record { path = is.i.path; module_here = is.i.here; item = assign is.d.name e; stands = at_path; holds = item; drives = (refl, refl) });
  }

  pub hold_drives : (gate expr : ℕ) → DrivesName text is.i.here is.d.name (local.Hold gate expr) →
      IsDriven text number (given.Hold (record { instance = bit.instance; expr = gate; bit = 0 }) (record { instance = bit.instance; expr = expr; bit = bit.bit }))
  hold_drives gate expr (g, e, gate_there, there, item) = record {
    of = point is.i.path is.d.name bit.bit;
    is = is.point_is;
    by = hold is.i.path g e bit.bit;
    means = (is.i.path, g, e, source_here gate g gate_there 0, refl, source_here expr e there bit.bit, refl);
    drives = inr (record { path = is.i.path; module_here = is.i.here; item = latch is.d.name g e; stands = at_path; holds = item; drives = (refl, refl) });
  }

  -- ---- inputs

  pub input_bit : DrivesName text is.i.here is.d.name local.Input → IsInput text bit.instance bit.declared
  input_bit input = record {
    i = is.i;
    is = is.is;
    d = is.d;
    declares = is.declares;
    role = role_of_input text kept.sound bit.instance bit.declared is.i is.is is.d is.declares input;
  }

  pub outside_drives : DrivesName text is.i.here is.d.name local.Input → bit.instance ≡ 0 → IsDriven text number given.Outside
  outside_drives input top =
      let path = top_path text is.i (subst (λ n. IsInstanceOfNumber text n is.i) top is.is) in
      let at_top : module_at text [] ≡ Some is.i.here = ap (module_at text) (sym path) ∙ at_path in
      record {
        of = point is.i.path is.d.name bit.bit;
        is = is.point_is;
        by = outside;
        means = refl;
        drives = inl (record { top = path; input = ap (λ o. is_input_of o is.d.name) at_top ∙ input; is = refl });
      }

  pub joined_drives : DrivesName text is.i.here is.d.name local.Input → (source : Source) → IsJoinedAbove text bit.instance bit.declared source →
      IsDriven text number (given.Value (record { instance = source.instance; expr = source.expr; bit = bit.bit }))
  joined_drives input source up =
      let above = up.above in
      let child = up.child.child in
      let joined = up.joined in
      let same : up.input.i ≡ is.i = same_value (slice_get (instances text) bit.instance) up.input.i is.i up.input.is is.is in
      let same_d : up.input.d ≡ is.d =
      same_value (slice_get (declarations is.i.here) bit.declared) up.input.d is.d (ap (λ (i : Instance). slice_get (declarations i.here) bit.declared) (sym same) ∙ up.input.declares) is.declares in
      let of : module_named text child.module_name ≡ Some is.i.here = up.child.of ∙ ap (λ (i : Instance). Some i.here) same in
      let path : is.i.path ≡ child.name ∷ above.path = ap (λ (i : Instance). i.path) (sym same) ∙ up.child.path in
      let port : joined.join.port ≡ is.d.name = joined.port_is ∙ ap (λ (d : Declaration). d.name) same_d in
      let p = point is.i.path is.d.name bit.bit in
      let driver = bit_of above.path joined.e bit.bit in
      let is_in : is_input_of (module_named text child.module_name) joined.join.port ≡ true = (λ k. is_input_of (of k) (port k)) ∙ input in
      let own : JoinDrives above.path child.name true joined.join.port (Some joined.e) p driver = ((λ k. point (path k) (sym port k) bit.bit), refl) in
      let drives : JoinDrives above.path child.name (is_input_of (module_named text child.module_name) joined.join.port) joined.join.port joined.join.to p driver =
      subst (λ (b : Bool). JoinDrives above.path child.name b joined.join.port joined.join.to p driver) (sym is_in)
      (subst (λ (to : Option PlainExpr). JoinDrives above.path child.name true joined.join.port to p driver) (sym joined.to) own) in
      let expr : source.expr ≡ joined.number = cc in
      record {
        of = p;
        is = is.point_is;
        by = driver;
        means = (
          above.path,
          joined.e,
          record { i = above; instance_is = up.above_is; at = refl; expression = ap (slice_get (expressions text)) expr ∙ joined.expression },
          refl,
        );
        drives = inr (record {
          path = above.path;
          module_here = above.here;
          item = instance child.module_name child.name child.joins;
          stands = (instances_stand text kept.sound source.instance above up.above_is).0;
          holds = child_item above.here.items up.place child up.child.is;
          drives = (joined.join, joined.holds, drives);
        });
      }

  -- ---- flip-flops

  pub flop_clock : (clock next : ℕ) → DrivesName text is.i.here is.d.name (local.Flop clock next) → IsClock text bit.instance clock
  flop_clock clock next (c, e, under, there, item) =
      let d = declared_under (declarations is.i.here) c clock under in
      let clocks = module_at_holds (λ (m : PlainModule). All (ClockFits text m) m.items) text is.i.path is.i.here kept.sound.clocks at_path in
      let fits : IsScalarInput is.i.here c = all_holds (ClockFits text is.i.here) is.i.here.items (clocked c is.d.name e) clocks item in
      let input : IsScalarInput is.i.here d.0.name = subst (IsScalarInput is.i.here) (sym d.2) fits in
      record {
        i = is.i;
        is = is.is;
        d = d.0;
        declares = d.1;
        role = role_of_input text kept.sound bit.instance clock is.i is.is d.0 d.1 input.0;
        serves = subst (ServesAsClock text is.i.here) (sym d.2) (ticks is.d.name e item);
        input = input;
      }

  pub flop_drives : (clock next : ℕ) (drives : DrivesName text is.i.here is.d.name (local.Flop clock next)) → (clock_number : ℕ) →
      ((at : IsClock text bit.instance clock) → IsClockPoint text at.i.path at.d.name clock_number) →
      IsDriven text number (given.Flop clock_number (record { instance = bit.instance; expr = next; bit = bit.bit }))
  flop_drives clock next (c, e, under, there, item) clock_number leads =
      let at = flop_clock clock next (c, e, under, there, item) in
      let d = declared_under (declarations is.i.here) c clock under in
      let same_i : at.i ≡ is.i = same_value (slice_get (instances text) bit.instance) at.i is.i at.is is.is in
      let same_d : at.d ≡ d.0 = same_value (slice_get (declarations is.i.here) clock) at.d d.0 (ap (λ (i : Instance). slice_get (declarations i.here) clock) (sym same_i) ∙ at.declares) d.1 in
      let point_of : IsClockPoint text is.i.path c clock_number =
      subst (λ (path : Path). IsClockPoint text path c clock_number) (ap (λ (i : Instance). i.path) same_i)
      (subst (λ (name : List ℕ). IsClockPoint text at.i.path name clock_number) (ap (λ (x : Declaration). x.name) same_d ∙ d.2) (leads at)) in
      record {
        of = point is.i.path is.d.name bit.bit;
        is = is.point_is;
        by = flop is.i.path c e bit.bit;
        means = (is.i.path, c, e, source_here next e there bit.bit, point_of, refl);
        drives = inr (record { path = is.i.path; module_here = is.i.here; item = clocked c is.d.name e; stands = at_path; holds = item; drives = (refl, refl) });
      }

  -- ---- output ports

  pub output_has : (child place : ℕ) → DrivesName text is.i.here is.d.name (local.Output child place) → HasChild text bit.instance child
  output_has child place by = record { i = is.i; is = is.is; within = slice_get_within (children is.i.here.items) child by.child by.is }

  pub wide_name : width_of_name is.i.here is.d.name ≡ width is.d.shape
  wide_name =
      let ds = declarations is.i.here in
      let first = first_there 0 ds bit.declared is.d is.declares in
      let found = found_declared 0 ds (named_once text kept.sound is.i.path is.i.here at_path) bit.declared is.d first.0 is.declares first.1 in
      found_width is.i.here is.d.name (record { first = first.0; shape = is.d.shape; role = is.d.role }) found

  module _ (child place : ℕ) (by : DrivesName text is.i.here is.d.name (local.Output child place)) (below_number : ℕ) (stands : IsChild text bit.instance child below_number)
      (below : Here) (below_kept : IsHere text below_number below) where
    same_above : stands.i ≡ is.i
    same_above = same_value (slice_get (instances text) bit.instance) stands.i is.i stands.is is.is

    same_child : stands.of.child ≡ by.child
    same_child =
        same_value (slice_get (children is.i.here.items) child) stands.of.child by.child (ap (λ (i : Instance). slice_get (children i.here.items) child) (sym same_above) ∙ stands.of.is) by.is

    below_path : stands.below.path ≡ by.child.name ∷ is.i.path
    below_path = stands.of.path ∙ (λ k. (same_child k).name ∷ (same_above k).path)

    below_module : by.below ≡ stands.below.here
    below_module =
        same_value (module_named text by.child.module_name) by.below stands.below.here by.stands (ap (λ (c : Child). module_named text c.module_name) (sym same_child) ∙ stands.of.of)

    pub output_point : IsPoint text (below.placed.first + place + bit.bit) (point (by.child.name ∷ is.i.path) by.join.port bit.bit)
    output_point =
        let wide : bit.bit < width by.local.shape =
        omega (arith, is.less, wide_name, output_wide text kept.sound is.i.path is.i.here at_path is.d.name child place by) in
        let found : found_in (declarations stands.below.here) by.join.port ≡ Some by.local =
        ap (λ (m : PlainModule). found_in (declarations m) by.join.port) (sym below_module) ∙ by.declares in
        ap (slice_get (points text)) (omega (arith, below_kept.placed.first, by.first))
        ∙ names_have_points text below_number stands.below stands.below_is by.join.port by.local found bit.bit wide
        ∙ ap (λ (path : Path). Some (point path by.join.port bit.bit)) below_path

    pub output_fits : below.placed.first + place + bit.bit < 4294967296
    output_fits =
        omega (arith, slice_get_within (points text) (below.placed.first + place + bit.bit) (point (by.child.name ∷ is.i.path) by.join.port bit.bit) output_point, kept.small)

    pub output_drives : IsDriven text number (given.Same (below.placed.first + place + bit.bit))
    output_drives =
        let p = point is.i.path is.d.name bit.bit in
        let port = point (by.child.name ∷ is.i.path) by.join.port bit.bit in
        let not_in : is_input_of (module_named text by.child.module_name) by.join.port ≡ false = ap (λ o. is_input_of o by.join.port) by.stands ∙ by.output in
        let own : JoinDrives is.i.path by.child.name false by.join.port (Some (variable is.d.name)) p (copy port) = (is.d.name, refl, refl, refl) in
        let drives : JoinDrives is.i.path by.child.name (is_input_of (module_named text by.child.module_name) by.join.port) by.join.port by.join.to p (copy port) =
        subst (λ (b : Bool). JoinDrives is.i.path by.child.name b by.join.port by.join.to p (copy port)) (sym not_in)
        (subst (λ (to : Option PlainExpr). JoinDrives is.i.path by.child.name false by.join.port to p (copy port)) (sym by.joined) own) in
        record {
          of = p;
          is = is.point_is;
          by = copy port;
          means = (port, output_point, refl);
          drives = inr (record {
            path = is.i.path;
            module_here = is.i.here;
            item = instance by.child.module_name by.child.name by.child.joins;
            stands = at_path;
            holds = child_item is.i.here.items child by.child by.is;
            drives = (by.join, by.holds, drives);
          });
        }
