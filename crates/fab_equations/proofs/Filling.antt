-- The instances of a text are filled in from the top: each is noted by the one in which it stands.
use Rattle.std.proofs.Common.{◌≡◌, ◌⊎◌, ℕ, zero, suc, ◌+◌, ◌-◌, ◌<◌, ◌≤◌, ◌^◌, List, [], ◌∷◌, length, reverse, take, replicate, get_or, slice_get, Some, None, refl, sym, ap, subst, ◌∙◌, inl, inr, arith}
use Rattle.std.specs.List.{flat_map}
use Rattle.std.proofs.lemmas.Bool.{cases_lt}
use Rattle.std.proofs.lemmas.List.{length-replicate, length-reverse, take_all}
use Rattle.std.proofs.lemmas.List.Concat.{length-flat_map}
use Rattle.std.proofs.lemmas.Option.{slice_get_within, slice_get_read}
use Rattle.fab_syntax.specs.Declarations.{module_named}
use Rattle.fab_syntax.specs.Plain.{PlainModule}
use Rattle.fab_syntax.specs.Sound.{IsSound}
use Rattle.fab_values.specs.Declarations.{bits_of, declarations}
use Rattle.fab_equations.specs.Children.{Child, children, modules_before, instances_of_children}
use Rattle.fab_equations.specs.Counting.{instances_count}
use Rattle.fab_equations.specs.Instances.{Instance, instances, instances_of_last, instance_points, points}
use Rattle.fab_equations.specs.Numbering.{IsInstanceOfNumber, offset_in, points_before}
use Rattle.fab_equations.specs.Tables.{IsTable, IsChildTable, AreTables}
use Rattle.fab_equations.specs.inner.Placed.{IsUnder, IsPlaced, ArePlaced, noted, IsNoted, bits_in, bits_together}
use Rattle.fab_equations.specs.declared.placed.PlacedInstance.{PlacedInstance}
use Rattle.fab_equations.specs.declared.tables.ChildTable.{ChildTable}
use Rattle.fab_equations.specs.declared.tables.Table.{Table}
use Rattle.fab_equations.proofs.Counted.{points_length}
use Rattle.fab_equations.proofs.Numbering.{same_value, some_there, standing, modules_before_it, instances_stand, children_follow, instances_are_children}
use Rattle.fab_equations.proofs.Standing.{the_instance, is_numbered, top_stands, child_stands}
use Rattle.fab_equations.proofs.Placing.{Kept, get_replicate, same_sums, one_module}

-- ---- what is filled in

-- an instance whose parent is below a number
pub record IsFollower (text : List PlainModule) (number follower : ℕ) : Type 0 where
  pub above : ℕ
  pub i : Instance
  pub is : IsInstanceOfNumber text above i
  pub child : ℕ
  pub within : child < length (children i.here.items)
  pub follows : follower ≡ above + offset_in text i child
  pub earlier : above < number

abbrev pub IsReached : List PlainModule → (number place : ℕ) → Type 0
IsReached text number place = (place ≡ 0) ⊎ IsFollower text number place

-- an instance with its module and its parent
pub record IsRight (text : List PlainModule) (number : ℕ) (p : PlacedInstance) : Type 0 where
  pub i : Instance
  pub is : IsInstanceOfNumber text number i
  pub of_module : p.«module» ≡ i.number
  pub under : 0 < number → IsUnder text number p.parent p.child

pub record IsFilled (text : List PlainModule) (number : ℕ) (filled : List PlacedInstance) : Type 0 where
  pub long : length filled ≡ length (instances text)
  pub right : (place : ℕ) (p : PlacedInstance) → slice_get filled place ≡ Some p → IsReached text number place → IsRight text place p

-- each instance is reached from those before it
pub reached : (text : List PlainModule) → IsSound text → (number place : ℕ) → place ≤ number → place < length (instances text) → IsReached text number place
reached text sound number zero l within = inl refl
reached text sound number (suc place) l within =
    let at = instances_are_children text sound (suc place) (omega arith) within in
    inr (record { above = at.0; i = at.1; is = at.2; child = at.3; within = at.4; follows = at.5; earlier = omega (arith, at.5, l) })

-- ---- the top

top_number : (text : List PlainModule) (i : Instance) → IsInstanceOfNumber text 0 i → i.number ≡ length text - 1
unfolding instances
top_number text i is = by (reverse text) refl
  where
    by : (behind : List PlainModule) → reverse text ≡ behind → i.number ≡ length text - 1
    by [] e =
        let none : slice_get (instances text) 0 ≡ None = ap (λ (ms : List PlainModule). slice_get (instances_of_last ms) 0) e in
        cc
    by (m ∷ before) e =
        let same : the_instance before m [] ≡ i = same_value (slice_get (instances text) 0) (the_instance before m []) i (is_numbered text 0 before m [] (top_stands text before m e)) is in
        omega (arith, ap (λ (j : Instance). j.number) same, ap length e, length-reverse text)

pub filled_first : (text : List PlainModule) (module_number count : ℕ) → module_number ≡ length text - 1 → count ≡ length (instances text) →
    IsFilled text 0 (replicate count (let top : PlacedInstance = record { «module» = module_number; first = 0; parent = 0; child = 0 } in top))
filled_first text module_number count is counted =
    let top : PlacedInstance = record { «module» = module_number; first = 0; parent = 0; child = 0 } in
    record {
      long = length-replicate count top ∙ counted;
      right = λ place p e reach. elim reach [
        | inl none ↦ (let there = get_replicate count place top p e in
            let here : (i : Instance) × IsInstanceOfNumber text place i = some_there (instances text) place (omega (arith, there.0, counted)) in
            let first : IsInstanceOfNumber text 0 here.0 = ap (slice_get (instances text)) (sym none) ∙ here.1 in
            record {
              i = here.0;
              is = here.1;
              of_module = ap (λ (q : PlacedInstance). q.«module») there.1 ∙ is ∙ sym (top_number text here.0 first);
              under = λ behind. absurd (omega (arith, none, behind));
            })
        | inr f ↦ absurd (omega (arith, f.earlier))
      ];
    }

-- ---- the instances in an instance

at_least : (before : List PlainModule) (all : List Child) → ((k : ℕ) (child : Child) → slice_get all k ≡ Some child → 1 ≤ instances_count before child.module_name) →
    (k : ℕ) → k ≤ length all → k ≤ instances_of_children before (take k all)
at_least before all each zero l = omega arith
at_least before [] each (suc k) l = absurd (omega (arith, l))
at_least before (child ∷ all) each (suc k) l =
    omega (arith, each 0 child refl, at_least before all (λ n other e. each (suc n) other e) k (omega (arith, l)))

past_offset : (text : List PlainModule) → IsSound text → (number : ℕ) (i : Instance) → IsInstanceOfNumber text number i → (k : ℕ) → k ≤ length (children i.here.items) → k < offset_in text i k
past_offset text sound number i is k l =
    let s = standing text sound number i is in
    let each : (n : ℕ) (child : Child) → slice_get (children i.here.items) n ≡ Some child → 1 ≤ instances_count s.before child.module_name =
    λ n child e. omega (arith, (child_stands text number s.before i.here i.path s.stands n child sound e).counted) in
    let least = at_least s.before (children i.here.items) each k l in
    omega (arith, least, ap (λ (ms : List PlainModule). instances_of_children ms (take k (children i.here.items))) (modules_before_it text number i s))

module _ (text : List PlainModule) (sound : IsSound text) (small : length (instances text) < 2 ^ 64) (tables : List Table) (are : AreTables text tables)
    (number : ℕ) (i : Instance) (is : IsInstanceOfNumber text number i) (table : Table) (at : slice_get tables i.number ≡ Some table) where
  fits : IsTable text (modules_before text i.number) i.here table
  fits = are.1 i.number i.here table (instances_stand text sound number i is).1 at

  module _ (k : ℕ) (child : ChildTable) (there : slice_get table.children.items k ≡ Some child) where
    is_child : IsChildTable text (modules_before text i.number) (children i.here.items) k child
    is_child = fits.children_fit k child there

    in_children : k < length (children i.here.items)
    in_children = omega (arith, slice_get_within table.children.items k child there, fits.children_count)

    exact : child.offset ≡ offset_in text i k
    exact =
        let f = children_follow text sound number i is k in_children in
        omega (arith, is_child.offset, slice_get_within (instances text) (number + offset_in text i k) f.0 f.1, small)

    pub child_within : (k < number + child.offset) × (number + child.offset < length (instances text))
    child_within =
        let f = children_follow text sound number i is k in_children in
        let l = slice_get_within (instances text) (number + offset_in text i k) f.0 f.1 in
        (omega (arith, exact, past_offset text sound number i is k (omega (arith, in_children))), omega (arith, exact, l))

    child_right : IsRight text (number + child.offset) (noted number k child)
    child_right =
        let f = children_follow text sound number i is k in_children in
        let place : number + child.offset ≡ number + offset_in text i k = omega (arith, exact) in
        let same : is_child.child ≡ f.2.child = same_value (slice_get (children i.here.items) k) is_child.child f.2.child is_child.is f.2.is in
        let below : is_child.below ≡ f.0.here = same_value (module_named text f.2.child.module_name) is_child.below f.0.here
        (ap (λ (c : Child). module_named text c.module_name) (sym same) ∙ is_child.stands) f.2.of in
        let below_is : IsInstanceOfNumber text (number + child.offset) f.0 = ap (slice_get (instances text)) place ∙ f.1 in
        record {
          i = f.0;
          is = below_is;
          of_module = one_module text sound child.«module» f.0.number f.0.here (is_child.numbered ∙ ap Some below) (instances_stand text sound (number + child.offset) f.0 below_is).1;
          under = λ behind. record { above = i; is = is; within = in_children; follows = place };
        }

  noted_right : (place : ℕ) (p : PlacedInstance) → IsNoted table.children.items number place p → IsRight text place p
  noted_right place p n =
      let here = child_right n.child_number n.child n.is in
      subst (λ (q : PlacedInstance). IsRight text place q) (sym n.placed_is) (subst (λ k. IsRight text k (noted number n.child_number n.child)) (sym n.follows) here)

  pub filled_next : (old new : List PlacedInstance) → IsFilled text number old → length new ≡ length old → Kept old new table.children.items number →
      ((k : ℕ) (child : ChildTable) → slice_get table.children.items k ≡ Some child → (p : PlacedInstance) → slice_get new (number + child.offset) ≡ Some p →
      IsNoted table.children.items number (number + child.offset) p) →
      IsFilled text (number + 1) new
  filled_next old new filled long kept all = record {
    long = long ∙ filled.long;
    right = λ place p e reach. elim (kept place p e) [
      | inr n ↦ noted_right place p n
      | inl was ↦ elim reach [
        | inl none ↦ filled.right place p was (inl none)
        | inr f ↦ elim (cases_lt f.above number) [
          | inl less ↦ filled.right place p was (inr (record { above = f.above; i = f.i; is = f.is; child = f.child; within = f.within; follows = f.follows; earlier = less }))
          | inr more ↦ (let here : f.above ≡ number = omega (arith, more, f.earlier) in
              let same : f.i ≡ i = same_value (slice_get (instances text) number) f.i i (ap (slice_get (instances text)) (sym here) ∙ f.is) is in
              let l : f.child < length table.children.items = omega (arith, f.within, ap (λ (j : Instance). length (children j.here.items)) same, fits.children_count) in
              let child : (c : ChildTable) × (slice_get table.children.items f.child ≡ Some c) = some_there table.children.items f.child l in
              let at_place : place ≡ number + child.0.offset =
              omega (arith, f.follows, here, ap (λ (j : Instance). offset_in text j f.child) same, exact f.child child.0 child.1) in
              noted_right place p (subst (λ k. IsNoted table.children.items number k p) (sym at_place) (all f.child child.0 child.1 p (ap (slice_get new) (sym at_place) ∙ e))))
        ]
      ]
    ];
  }

-- the table of the module of an instance
pub record IsTableAt (text : List PlainModule) (tables : List Table) (number : ℕ) (table : Table) : Type 0 where
  pub i : Instance
  pub is : IsInstanceOfNumber text number i
  pub at : slice_get tables i.number ≡ Some table

module _ (text : List PlainModule) (sound : IsSound text) (tables : List Table) (are : AreTables text tables) (number : ℕ) (filled_in : List PlacedInstance)
    (filled : IsFilled text number filled_in) (less : number < length (instances text)) (here : PlacedInstance) (read : here ≡ get_or filled_in number here) where
  right_at : IsRight text number here
  right_at =
      filled.right number here (slice_get_read filled_in (length filled_in) number here refl (omega (arith, filled.long)) read)
      (reached text sound number number (omega arith) less)

  pub module_at_within : here.«module» < length tables
  module_at_within = omega (arith, right_at.of_module, are.0, slice_get_within text right_at.i.number right_at.i.here (instances_stand text sound number right_at.i right_at.is).1)

  pub table_at : (table : Table) → table ≡ get_or tables here.«module» table → IsTableAt text tables number table
  table_at table is = record {
    i = right_at.i;
    is = right_at.is;
    at = ap (slice_get tables) (sym right_at.of_module) ∙ slice_get_read tables (length tables) here.«module» table refl module_at_within is;
  }

-- ---- points

module _ (text : List PlainModule) (sound : IsSound text) (tables : List Table) (are : AreTables text tables) (placed : List PlacedInstance)
    (filled : IsFilled text (length (instances text)) placed) where
  pub right_here : (number : ℕ) (p : PlacedInstance) → slice_get placed number ≡ Some p → IsRight text number p
  right_here number p e =
      let l : number < length (instances text) = omega (arith, slice_get_within placed number p e, filled.long) in
      filled.right number p e (reached text sound (length (instances text)) number (omega (arith, l)) l)

  pub module_within : (number : ℕ) (p : PlacedInstance) → slice_get placed number ≡ Some p → p.«module» < length tables
  module_within number p e =
      let r = right_here number p e in
      omega (arith, r.of_module, are.0, slice_get_within text r.i.number r.i.here (instances_stand text sound number r.i r.is).1)

  pub bits_before : (number : ℕ) → bits_together tables (take number placed) ≡ points_before text number
  bits_before number =
      same_sums (λ (p : PlacedInstance). bits_in (slice_get tables p.«module»)) (λ (i : Instance). length (instance_points i)) placed (instances text) filled.long same number
      ∙ sym (length-flat_map instance_points (take number (instances text)))
    where
      same : (k : ℕ) (p : PlacedInstance) (i : Instance) → slice_get placed k ≡ Some p → IsInstanceOfNumber text k i → bits_in (slice_get tables p.«module») ≡ length (instance_points i)
      same k p i e is =
          let r = right_here k p e in
          let table : (t : Table) × (slice_get tables p.«module» ≡ Some t) = some_there tables p.«module» (module_within k p e) in
          let one : r.i ≡ i = same_value (slice_get (instances text) k) r.i i r.is is in
          let number_is : p.«module» ≡ i.number = r.of_module ∙ ap (λ (j : Instance). j.number) one in
          let names : table.0.names ≡ declarations i.here =
          (are.1 i.number i.here table.0 (instances_stand text sound k i is).1 (ap (slice_get tables) (sym number_is) ∙ table.1)).names in
          ap bits_in table.1 ∙ ap bits_of names ∙ sym (points_length i.path (declarations i.here))

  pub all_bits : bits_together tables placed ≡ length (points text)
  unfolding points
  all_bits =
      ap (bits_together tables) (sym (take_all (length placed) placed (omega arith))) ∙ bits_before (length placed)
      ∙ ap (λ (is : List Instance). length (flat_map instance_points is)) (take_all (length placed) (instances text) (omega (arith, filled.long)))

  pub are_placed : (new : List PlacedInstance) → length new ≡ length placed →
      ((number : ℕ) (p : PlacedInstance) → slice_get placed number ≡ Some p → slice_get new number ≡ Some (record p { first = bits_together tables (take number placed) })) →
      ArePlaced text new
  are_placed new long pointed = (long ∙ filled.long, each)
    where
      each : (number : ℕ) (p : PlacedInstance) → slice_get new number ≡ Some p → IsPlaced text number p
      each number p e =
          let was : (q : PlacedInstance) × (slice_get placed number ≡ Some q) = some_there placed number (omega (arith, slice_get_within new number p e, long)) in
          let now : PlacedInstance = record was.0 { first = bits_together tables (take number placed) } in
          let same : now ≡ p = same_value (slice_get new number) now p (pointed number was.0 was.1) e in
          let r = right_here number was.0 was.1 in
          subst (IsPlaced text number) same (record { i = r.i; is = r.is; of_module = r.of_module; first = bits_before number; under = r.under })
