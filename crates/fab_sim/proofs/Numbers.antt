-- The lines of a state by the numbers of their points.
use Rattle.std.proofs.Common.{◌≡◌, ◌⊎◌, ℕ, zero, suc, Bool, true, false, List, [], ◌∷◌, map, length, Some, if◌then◌else◌, refl, sym, ap, subst, ◌∙◌, inl}
use Rattle.std.proofs.Common.{inr, arith}
use Rattle.std.specs.List.{slice_get, AllByRecursion}
use Rattle.std.proofs.lemmas.Bool.{cases_Bool, cases_lt, false≢true}
use Rattle.std.proofs.lemmas.List.{length-map}
use Rattle.std.proofs.lemmas.Option.{slice_get_within, get_or_from_slice_get}
use Rattle.fab_syntax.specs.Plain.{PlainModule}
use Rattle.fab_syntax.specs.Sound.{IsSound}
use Rattle.fab_systems_laws.specs.Ternary.{Tern, no, known}
use Rattle.fab_meaning.specs.Points.{Point, flop}
use Rattle.fab_meaning.specs.Reads.{same_point}
use Rattle.fab_meaning.proofs.Dependence.{same_point_refl, same_point_is}
use Rattle.fab_implementation.specs.Plain.{Pad}
use Rattle.fab_prim.specs.Ports.{top_name}
use Rattle.fab_prim.specs.Modules.{flip_flop_name}
use Rattle.fab_texts.specs.Places.{IsWritable}
use Rattle.fab_state.specs.Plain.{Register, PlainState}
use Rattle.fab_state.specs.Spelled.{AreApart, sites}
use Rattle.fab_ternary_laws.specs.Shown.{Terns}
use Rattle.fab_equations.specs.Instances.{points}
use Rattle.fab_equations.specs.Equations.{IsPoint}
use Rattle.fab_equations.proofs.Numbering.{some_there}
use Rattle.fab_equations.proofs.Points.{points_differ}
use Rattle.fab_compiled.specs.Leading.{PointTerns}
use Rattle.fab_compiled.specs.Values.{AreByNumber}
use Rattle.fab_network.specs.declared.network.Drive.TheVariants.{Given}
use Rattle.fab_network.specs.declared.network.Network.{Network}
use Rattle.fab_ordering_laws.specs.fab_use_defs_Sites.{bel_point, top_point}
use Rattle.fab_ordering_laws.specs.fab_simulation_laws_Simulation.{given, shown_at, with_registers}
use Rattle.fab_phases.specs.Cycles.{AreOnce, IsIn}
use Rattle.fab_phases.specs.Running.{AreNumbers}
use Rattle.fab_phases.proofs.Lists.{get_mapped, get_of_mapped}
use Rattle.fab_state_points.specs.Entries.{entry_point, HasEntry, in_entries, out_entries, register_entries}
use Rattle.fab_state_points.specs.Standing.{AreAt, StandsAt}
use Rattle.fab_state_points.specs.declared.entry.Entry.{Entry}
use Rattle.fab_state_points.specs.declared.entry.Entry.TheVariants as entries
use Rattle.fab_state_points.specs.declared.points.StatePoints.{StatePoints}
use Rattle.fab_sim.specs.Once.{StandsOnce}
use Rattle.fab_sim.specs.Making.{IsNetworkOf}
use Rattle.fab_sim.proofs.Points.{one_point, held_not_given, input_drives, outside_drive}
use Rattle.fab_sim.proofs.Sites.{one_pad, one_register}

-- ---- lines

-- the line of a number
pub line_at : (text : List PlainModule) (lines : List Entry) (numbers : List ℕ) → AreAt text lines numbers → (place number : ℕ) →
    slice_get numbers place ≡ Some number →
    (line : Entry) × (slice_get lines place ≡ Some line)
line_at text lines numbers at place number e =
    let long = at.long in
    let within = slice_get_within numbers place number e in
    some_there lines place (omega (arith, long, within))

at_tail : (text : List PlainModule) (line : Entry) (lines : List Entry) (number : ℕ) (numbers : List ℕ) → AreAt text (line ∷ lines) (number ∷ numbers) →
    AreAt text lines numbers
at_tail text line lines number numbers at =
    let long = at.long in
    record { long = omega (arith, long); each = λ place entry n e f. at.each (suc place) entry n e f }

pub numbers_within : (text : List PlainModule) (lines : List Entry) (numbers : List ℕ) (count : ℕ) → AreAt text lines numbers →
    count ≡ length (points text) → AreNumbers count numbers
numbers_within text lines numbers count at long place number e =
    let line = line_at text lines numbers at place number e in
    let within = slice_get_within (points text) number (entry_point line.0) (at.each place line.0 number line.1 e).1 in
    omega (arith, long, within)

pub as_many_ins : (text : List PlainModule) (pads : List Pad) (numbers : List ℕ) → AreAt text (in_entries pads) numbers → length numbers ≡ length pads
as_many_ins text pads numbers at = at.long ∙ length-map pads (λ (pad : Pad). entries.Input pad.1)

pub as_many_ffs : (text : List PlainModule) (ffs : List Register) (numbers : List ℕ) → AreAt text (register_entries ffs) numbers → length numbers ≡ length ffs
as_many_ffs text ffs numbers at = at.long ∙ length-map ffs (λ (ff : Register). entries.Register ff.0)

-- ---- no number stands twice

apart_places : {X : Type 0} (xs : List X) → AreApart xs → (i j : ℕ) (x : X) → slice_get xs i ≡ Some x → slice_get xs j ≡ Some x → i ≡ j
apart_places xs apart i j x a b =
    let at_i = get_or_from_slice_get xs i x x a in
    let at_j = get_or_from_slice_get xs j x x b in
    elim (cases_lt i j) [
      | inl less ↦ absurd (apart i j x less (slice_get_within xs j x b) (at_i ∙ sym at_j))
      | inr not_less ↦ elim (cases_lt j i) [
        | inl more ↦ absurd (apart j i x more (slice_get_within xs i x a) (at_j ∙ sym at_i))
        | inr not_more ↦ omega (arith, not_less, not_more)
      ]
    ]

of_each : {X : Type 0} (P : X → Type 0) (xs : List X) → AllByRecursion P xs → (k : ℕ) (x : X) → slice_get xs k ≡ Some x → P x
of_each P [] all k x e = cc
of_each P (y ∷ xs) all zero x e = let same : y ≡ x = cc in subst P same all.0
of_each P (y ∷ xs) all (suc k) x e = of_each P xs all.1 k x e

once_by : (text : List PlainModule) (lines : List Entry) (numbers : List ℕ) → AreAt text lines numbers →
    ((i j : ℕ) (a b : Entry) → slice_get lines i ≡ Some a → slice_get lines j ≡ Some b → entry_point a ≡ entry_point b → i ≡ j) → AreOnce numbers
once_by text lines numbers at apart place other number e f =
    let a = line_at text lines numbers at place number e in
    let b = line_at text lines numbers at other number f in
    apart place other a.0 b.0 a.1 b.1
    (one_point text number (entry_point a.0) (entry_point b.0) (at.each place a.0 number a.1 e).1 (at.each other b.0 number b.1 f).1)

pub ins_once : (text : List PlainModule) (state : PlainState) (numbers : List ℕ) → StandsOnce state → AreAt text (in_entries state.ins) numbers →
    AreOnce numbers
ins_once text state numbers once at =
    once_by text (in_entries state.ins) numbers at (λ i j a b at_i at_j same.
    let x = get_of_mapped (λ (pad : Pad). entries.Input pad.1) state.ins i a at_i in
    let y = get_of_mapped (λ (pad : Pad). entries.Input pad.1) state.ins j b at_j in
    let one : x.0.1 ≡ y.0.1 =
    one_pad x.0.1 y.0.1 (of_each (λ (pad : Pad). IsWritable pad.1) state.ins once.in_sites i x.0 x.1)
    (of_each (λ (pad : Pad). IsWritable pad.1) state.ins once.in_sites j y.0 y.1)
    (ap entry_point x.2 ∙ same ∙ sym (ap entry_point y.2)) in
    apart_places (sites state.ins) once.ins i j y.0.1 (get_mapped (λ (pad : Pad). pad.1) state.ins i x.0 x.1 ∙ ap Some one)
    (get_mapped (λ (pad : Pad). pad.1) state.ins j y.0 y.1))

pub ffs_once : (text : List PlainModule) (state : PlainState) (numbers : List ℕ) → StandsOnce state → AreAt text (register_entries state.ffs) numbers →
    AreOnce numbers
ffs_once text state numbers once at =
    once_by text (register_entries state.ffs) numbers at (λ i j a b at_i at_j same.
    let x = get_of_mapped (λ (ff : Register). entries.Register ff.0) state.ffs i a at_i in
    let y = get_of_mapped (λ (ff : Register). entries.Register ff.0) state.ffs j b at_j in
    let one : x.0.0 ≡ y.0.0 =
    one_register x.0.0 y.0.0 (of_each (λ (ff : Register). IsWritable ff.0) state.ffs once.ff_sites i x.0 x.1)
    (of_each (λ (ff : Register). IsWritable ff.0) state.ffs once.ff_sites j y.0 y.1) (ap entry_point x.2 ∙ same ∙ sym (ap entry_point y.2)) in
    apart_places (map (λ (ff : Register). ff.0) state.ffs) once.ffs i j y.0.0 (get_mapped (λ (ff : Register). ff.0) state.ffs i x.0 x.1 ∙ ap Some one)
    (get_mapped (λ (ff : Register). ff.0) state.ffs j y.0 y.1))

-- ---- drives

module _ (text : List PlainModule) (network : Network) (of : IsNetworkOf text network) (state : PlainState) (at : StatePoints)
    (stands : StandsAt text state at) where
  input_given : (number : ℕ) (line : Entry) (pad : Pad) → entries.Input pad.1 ≡ line → HasEntry text line → IsPoint text number (entry_point line) →
      slice_get network.drives.items number ≡ Some Given
  input_given number line pad same has is =
      let here : HasEntry text (entries.Input pad.1) = subst (HasEntry text) (sym same) has in
      let point_is : IsPoint text number (top_point pad.1 top_name) = subst (λ (x : Entry). IsPoint text number (entry_point x)) (sym same) is in
      outside_drive text network of number (top_point pad.1 top_name) point_is (input_drives text (top_point pad.1 top_name).name _ 0 here)

  pub in_given : (place number : ℕ) → slice_get at.ins.items place ≡ Some number → slice_get network.drives.items number ≡ Some Given
  in_given place number e =
      let line = line_at text (in_entries state.ins) at.ins.items stands.ins place number e in
      let each = stands.ins.each place line.0 number line.1 e in
      let pad = get_of_mapped (λ (pad : Pad). entries.Input pad.1) state.ins place line.0 line.1 in
      input_given number line.0 pad.0 pad.2 each.0 each.1

  register_not_given : (number : ℕ) (line : Entry) (ff : Register) → entries.Register ff.0 ≡ line → HasEntry text line →
      IsPoint text number (entry_point line) →
      slice_get network.drives.items number ≡ Some Given → ⊥
  register_not_given number line ff same has is given =
      let here : HasEntry text (entries.Register ff.0) = subst (HasEntry text) (sym same) has in
      let point_is : IsPoint text number (bel_point ff.0 flip_flop_name) = subst (λ (x : Entry). IsPoint text number (entry_point x)) (sym same) is in
      let clocked = here.1 in
      held_not_given text network of number (bel_point ff.0 flip_flop_name) (flop clocked.path clocked.clock clocked.next clocked.bit) point_is clocked.drives
      tt given

  pub ff_not_given : (number : ℕ) → IsIn at.ffs.items number → slice_get network.drives.items number ≡ Some Given → ⊥
  ff_not_given number (place, other, e, same) given =
      let here : slice_get at.ffs.items place ≡ Some number = e ∙ ap Some same in
      let line = line_at text (register_entries state.ffs) at.ffs.items stands.ffs place number here in
      let each = stands.ffs.each place line.0 number line.1 here in
      let ff = get_of_mapped (λ (ff : Register). entries.Register ff.0) state.ffs place line.0 line.1 in
      register_not_given number line.0 ff.0 ff.2 each.0 each.1 given

  pub is_in_given : (number : ℕ) → IsIn at.ins.items number → slice_get network.drives.items number ≡ Some Given
  is_in_given number (place, other, e, same) = in_given place number (e ∙ ap Some same)

-- ---- what the lines say by number

in_more : (n number : ℕ) (numbers : List ℕ) → (n ≡ number → ⊥) → (IsIn numbers number → ⊥) → IsIn (n ∷ numbers) number → ⊥
in_more n number numbers first later (zero, x, e, same) = let is : n ≡ x = cc in first (is ∙ same)
in_more n number numbers first later (suc place, x, e, same) = later (place, x, e, same)

not_in_none : (number : ℕ) → IsIn [] number → ⊥
not_in_none number (place, x, e, same) = cc

-- a point stands in the list with this value, or it does not and has this
abbrev pub IsPicked : (numbers : List ℕ) → (values : List Bool) → (number : ℕ) → (found rest : Tern) → Type 0
IsPicked numbers values number found rest =
    ((place : ℕ) × (value : Bool) × (slice_get numbers place ≡ Some number) × (slice_get values place ≡ Some value) × (found ≡ known value))
    ⊎ ((IsIn numbers number → ⊥) × (found ≡ rest))

picked_on : (n : ℕ) (numbers : List ℕ) (v : Bool) (values : List Bool) (number : ℕ) (found later rest : Tern) → (n ≡ number → ⊥) → found ≡ later →
    IsPicked numbers values number later rest → IsPicked (n ∷ numbers) (v ∷ values) number found rest
picked_on n numbers v values number found later rest differs step picked =
    elim picked [
      | inl there ↦ inl (suc there.0, there.1, there.2, there.3, step ∙ there.4)
      | inr none ↦ inr (in_more n number numbers differs none.0, step ∙ none.1)
    ]

module _ (text : List PlainModule) (sound : IsSound text) where
  same_number : (n number : ℕ) (q p : Point) → IsPoint text n q → IsPoint text number p → q ≡ p → n ≡ number
  same_number n number q p at is same = points_differ text sound n number p (subst (IsPoint text n) same at) is

  differ_numbers : (n number : ℕ) (q p : Point) → IsPoint text n q → IsPoint text number p → same_point q p ≡ false → n ≡ number → ⊥
  differ_numbers n number q p at is other same =
      let one : q ≡ p = one_point text number q p (subst (λ (k : ℕ). IsPoint text k q) same at) is in
      false≢true (sym other ∙ subst (λ (x : Point). same_point q x ≡ true) one (same_point_refl q))

  pub given_picked : (pads : List Pad) (values : List Bool) (numbers : List ℕ) → AreAt text (in_entries pads) numbers → length values ≡ length pads →
      (number : ℕ) (p : Point) → IsPoint text number p → IsPicked numbers values number (given pads values p) no
  given_picked [] values [] at long number p is = inr (not_in_none number, refl)
  given_picked [] values (n ∷ numbers) at long number p is = let as_many = at.long in absurd (omega (arith, as_many))
  given_picked (pad ∷ pads) values [] at long number p is = let as_many = at.long in absurd (omega (arith, as_many))
  given_picked (pad ∷ pads) [] (n ∷ numbers) at long number p is = absurd (omega (arith, long))
  given_picked (pad ∷ pads) (value ∷ values) (n ∷ numbers) at long number p is =
      let here : IsPoint text n (top_point pad.1 top_name) = (at.each 0 (entries.Input pad.1) n refl refl).1 in
      elim (cases_Bool (same_point (top_point pad.1 top_name) p)) [
        | inl same ↦ inl (
          0,
          value,
          ap Some (same_number n number (top_point pad.1 top_name) p here is (same_point_is (top_point pad.1 top_name) p same)),
          refl,
          ap (λ (b : Bool). if b then known value else given pads values p) same,
        )
        | inr other ↦ picked_on n numbers value values number (given (pad ∷ pads) (value ∷ values) p) (given pads values p) no
            (differ_numbers n number (top_point pad.1 top_name) p here is other) (ap (λ (b : Bool). if b then known value else given pads values p) other)
            (given_picked pads values numbers (at_tail text (entries.Input pad.1) (in_entries pads) n numbers at) (omega (arith, long)) number p is)
      ]

  pub registers_picked : (registers : List Register) (numbers : List ℕ) → AreAt text (register_entries registers) numbers →
      (held : Terns) (number : ℕ) (p : Point) →
      IsPoint text number p → IsPicked numbers (map (λ register. register.1) registers) number (with_registers registers held p) (held p)
  registers_picked [] [] at held number p is = inr (not_in_none number, refl)
  registers_picked [] (n ∷ numbers) at held number p is = let as_many = at.long in absurd (omega (arith, as_many))
  registers_picked (register ∷ registers) [] at held number p is = let as_many = at.long in absurd (omega (arith, as_many))
  registers_picked (register ∷ registers) (n ∷ numbers) at held number p is =
      let q = bel_point register.0 flip_flop_name in
      let here : IsPoint text n q = (at.each 0 (entries.Register register.0) n refl refl).1 in
      let next : Bool → Tern = λ b. if b then known register.1 else with_registers registers held p in
      elim (cases_Bool (same_point q p)) [
        | inl same ↦ inl (0, register.1, ap Some (same_number n number q p here is (same_point_is q p same)), refl, ap next same)
        | inr other ↦ picked_on n numbers register.1 (map (λ (ff : Register). ff.1) registers) number (with_registers (register ∷ registers) held p)
            (with_registers registers held p) (held p) (differ_numbers n number q p here is other) (ap next other)
            (registers_picked registers numbers (at_tail text (entries.Register register.0) (register_entries registers) n numbers at) held number p is)
      ]

pub shown_numbers : (text : List PlainModule) (pads : List Pad) (numbers : List ℕ) → AreAt text (out_entries pads) numbers → (t : Terns) (s : PointTerns) →
    AreByNumber text t s →
    map s numbers ≡ shown_at pads t
shown_numbers text [] [] at t s same = refl
shown_numbers text [] (n ∷ numbers) at t s same = let as_many = at.long in absurd (omega (arith, as_many))
shown_numbers text (pad ∷ pads) [] at t s same = let as_many = at.long in absurd (omega (arith, as_many))
shown_numbers text (pad ∷ pads) (n ∷ numbers) at t s same =
    let here = same n (entry_point (entries.Output pad.1)) (at.each 0 (entries.Output pad.1) n refl refl).1 in
    let rest = shown_numbers text pads numbers (at_tail text (entries.Output pad.1) (out_entries pads) n numbers at) t s same in
    λ j. here j ∷ rest j
