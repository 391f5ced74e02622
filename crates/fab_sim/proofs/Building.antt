-- How a machine is made.
use Rattle.std.proofs.Common.{◌≡◌, ◌⊎◌, ℕ, ◌+◌, ◌<◌, ◌≤◌, Bool, true, false, List, [], length, Option, None, Some, refl, sym, ap, ◌∙◌, subst, inl}
use Rattle.std.proofs.Common.{inr, arith, slice_set, replicate, take, drop, ◌++◌, ◌↔◌}
use Rattle.std.specs.List.{slice_get}
use Rattle.std.proofs.lemmas.Bool.{cases_eq}
use Rattle.std.proofs.Common.{length-set}
use Rattle.std.proofs.lemmas.List.{length-replicate, take-append-le, take_all}
use Rattle.std.proofs.lemmas.Option.{slice_get_within}
use Rattle.fab_syntax.specs.Plain.{PlainModule}
use Rattle.fab_systems_laws.specs.Ternary.{no, unknown}
use Rattle.fab_systems_laws.specs.Ternary.{Tern as PlainTern}
use Rattle.fab_ternary.specs.declared.Tern.{Tern}
use Rattle.fab_ternary.specs.declared.Tern.TheVariants.{No, Yes}
use Rattle.fab_compiled.specs.Leading.{PointTerns}
use Rattle.fab_network.specs.Passes.{kept_tern}
use Rattle.fab_network.proofs.Kept.{kept_same, kept_other}
use Rattle.fab_syntax.specs.Declarations.{is_input_of}
use Rattle.fab_syntax.specs.declared.tree.Shape.{Shape}
use Rattle.fab_ternary.specs.Terns.{plain_tern}
use Rattle.fab_compiled.specs.Terns.{tern_or_unknown}
use Rattle.fab_compiled.specs.declared.tree.Tree.{Tree}
use Rattle.fab_meaning.specs.Points.{Point, point, Driver, outside, copy, bit_of, flop, hold, Drives, module_at, IsStored}
use Rattle.fab_meaning.specs.Loading.{IsLoading, write_data_name, write_strobe_name}
use Rattle.fab_values.specs.Declarations.{declared_at, found_in}
use Rattle.fab_values.specs.declared.names.Role.TheVariants as roles
use Rattle.fab_equations.specs.Instances.{points as text_points}
use Rattle.fab_equations.specs.Equations.{IsPoint}
use Rattle.fab_equations.proofs.Numbering.{some_there}
use Rattle.fab_equations.proofs.Placing.{get_replicate}
use Rattle.fab_equations.proofs.Roles.{input_role, is_input_role}
use Rattle.fab_network.specs.declared.network.Clock.TheVariants.{Loader}
use Rattle.fab_network.specs.declared.network.Drive.{Drive}
use Rattle.fab_network.specs.declared.network.Drive.TheVariants.{Given, Flop, Same, Value, Hold}
use Rattle.fab_network.specs.declared.network.Network.{Network}
use Rattle.fab_demand.specs.Asked.{Asked}
use Rattle.fab_demand.specs.Demand.{IsAsked}
use Rattle.fab_demand.specs.Laws.{GivenIsKept}
use Rattle.fab_wiring.specs.Wiring.{AreDrives, IsDriveOf}
use Rattle.fab_phases.specs.Loading.{AreLoading}
use Rattle.fab_phases.specs.Words.{IsLoadingAt}
use Rattle.fab_phases.specs.declared.loading.Loading.{Loading}
use Rattle.fab_phases.proofs.Running.{differs_none}
use Rattle.fab_state.specs.Plain.{PlainState}
use Rattle.fab_state_points.specs.Finding.{IsDeclared}
use Rattle.fab_state_points.specs.Standing.{StandsAt, data_shape, data_width, first_data}
use Rattle.fab_state_points.specs.declared.points.Stream.{Stream}
use Rattle.fab_state_points.specs.declared.points.StatePoints.{StatePoints}
use Rattle.fab_sim.specs.Making.{AreLoads, IsGivenFirst}
use Rattle.fab_sim.specs.inner.Made.{stored_by}
use Rattle.fab_sim.specs.inner.Starting.{AreFilled}

-- ---- what is given at first

pub record AreFilledSoFar (first width count : ℕ) (value : PlainTern) (old : PointTerns) (now : List Tern) : Type 0 where
  pub filled : (bit : ℕ) → bit < count → kept_tern now (first + bit) ≡ value
  pub others : (number : ℕ) → (number < first) ⊎ (first + width ≤ number) → kept_tern now number ≡ old number

pub filled_none : (first width : ℕ) (value : PlainTern) (now : List Tern) → AreFilledSoFar first width 0 value (kept_tern now) now
filled_none first width value now = record { filled = λ bit less. absurd (omega arith); others = λ number outside. refl }

pub filled_more : (first width count : ℕ) (t : Tern) (old : PointTerns) (now : List Tern) → count < width → first + width ≤ length now →
    AreFilledSoFar first width count (plain_tern t) old now → AreFilledSoFar first width (count + 1) (plain_tern t) old (slice_set now (first + count) t)
filled_more first width count t old now less room so_far =
    let within : first + count < length now = omega arith in
    record {
      filled = λ bit l.
          elim (cases_eq bit count) [
            | inl e ↦ ap (λ (n : ℕ). kept_tern (slice_set now (first + count) t) (first + n)) e ∙ kept_same now (first + count) t within
            | inr apart ↦
                let other : first + bit ≡ first + count → ⊥ = λ e. apart (omega arith) in
                kept_other now (first + count) t (first + bit) other ∙ so_far.filled bit (omega (arith, apart))
          ];
      others = λ number outside.
          let other : number ≡ first + count → ⊥ = λ e. elim outside [ inl l ↦ omega arith | inr g ↦ omega arith ] in
          kept_other now (first + count) t number other ∙ so_far.others number outside;
    }

pub filled_all : (first width count : ℕ) (value : PlainTern) (old : PointTerns) (now : List Tern) → width ≤ count → AreFilledSoFar first width count value old now →
    AreFilled first width value old (kept_tern now)
filled_all first width count value old now all so_far = record { filled = λ bit less. so_far.filled bit (omega arith); others = so_far.others }

pub all_no : (count number : ℕ) → number < count → kept_tern (replicate count No) number ≡ no
all_no count number less =
    let long : length (replicate count No) ≡ count = length-replicate count No in
    let there = some_there (replicate count No) number (omega arith) in
    ap tern_or_unknown there.1 ∙ ap plain_tern (get_replicate count number No there.0 there.1).1

pub given_first : (count : ℕ) (stream : Stream) (given : List Tern) → stream.strobe < count →
    AreFilled (first_data stream.carrier) (data_width stream.carrier) unknown (kept_tern (slice_set (replicate count No) stream.strobe Yes)) (kept_tern given) →
    IsGivenFirst count stream (kept_tern given)
given_first count stream given less opened =
    let strobe = stream.strobe in
    let long : length (replicate count No) ≡ count = length-replicate count No in
    let inside : strobe < length (replicate count No) = omega arith in
    record {
      strobe_is = λ outside. opened.others strobe outside ∙ kept_same (replicate count No) strobe Yes inside;
      carrier = opened.filled;
      others = λ number bound apart outside. opened.others number outside ∙ kept_other (replicate count No) strobe Yes number apart ∙ all_no count number bound;
    }

-- ---- what is gathered

pub made_loading : GivenIsKept → (network : Network) (loading : Loading) (loads : List Bool) (first width : ℕ) (demand : Asked) (given : List Tern) →
    IsAsked network Loader (kept_tern given) demand → AreLoading network demand loads loading →
    ((bit : ℕ) → bit < width → slice_get network.drives.items (first + bit) ≡ Some Given) → ((bit : ℕ) → bit < width → kept_tern given (first + bit) ≡ unknown) →
    IsLoadingAt network loading loads first width demand given
made_loading kept network loading loads first width demand given is_asked are inputs carrier = record {
  base = kept_tern given;
  asked = demand;
  is_asked = is_asked;
  differs = differs_none demand;
  gathered = are;
  inputs = λ bit less. (inputs bit less, carrier bit less);
  kept = kept network Loader (kept_tern given) demand.terns demand.leads;
}

-- ---- the inputs of a text

-- a name that is declared as an input of the top is one
input_of : (text : List PlainModule) (name : List ℕ) (shape : Shape) → IsDeclared text [] name shape roles.Input → is_input_of (module_at text []) name ≡ true
input_of text name shape is = by (module_at text []) is.is
  where
    by : (o : Option PlainModule) → found_in (declared_at o) name ≡ Some is.local → is_input_of o name ≡ true
    by None e = cc
    by (Some m) e = input_role 0 m.ports m.items name is.local e ∙ ap is_input_role is.role_is

pub outside_at : (text : List PlainModule) (name : List ℕ) (shape : Shape) (bit : ℕ) → IsDeclared text [] name shape roles.Input →
    Drives text (point [] name bit) outside
outside_at text name shape bit is = inl (record { top = refl; input = input_of text name shape is; is = refl })

given_by : (text : List PlainModule) (trees : List Tree) (drive : Drive) → IsDriveOf text trees outside drive → drive ≡ Given
given_by text trees Given of = refl
given_by text trees (Flop clock next) of = absurd of
given_by text trees (Same other) of = absurd of
given_by text trees (Value source) of = absurd of
given_by text trees (Hold gate latched) of = absurd of

-- the drive of an input
pub given_at : (text : List PlainModule) (network : Network) (number : ℕ) (p : Point) → AreDrives text network.trees.items network.drives.items →
    IsPoint text number p →
    Drives text p outside → slice_get network.drives.items number ≡ Some Given
given_at text network number p are is drives =
    let wired = are number p outside is drives in
    wired.is ∙ ap (λ (d : Drive). Some d) (given_by text network.trees.items wired.drive wired.of)

pub data_given : (text : List PlainModule) (network : Network) (state : PlainState) (points : StatePoints) →
    AreDrives text network.trees.items network.drives.items →
    StandsAt text state points → (bit : ℕ) → bit < data_width points.stream.carrier → slice_get network.drives.items (first_data points.stream.carrier + bit) ≡ Some Given
data_given text network state points are stands bit less =
    let carrier = points.stream.carrier in
    given_at text network (first_data carrier + bit) (point [] write_data_name bit) are (stands.stream.words.bits bit less)
    (outside_at text write_data_name (data_shape carrier) bit stands.stream.words.declared)

pub strobe_within : (text : List PlainModule) (state : PlainState) (points : StatePoints) → StandsAt text state points →
    points.stream.strobe < length (text_points text)
strobe_within text state points stands =
    let at = slice_get_within (text_points text) (points.stream.strobe + 0) (point [] write_strobe_name 0) (stands.stream.strobe 0 (omega arith)) in
    omega arith

-- ---- the marks of loading points

stored_of : (d : Driver) → IsStored d → IsStored d
stored_of outside h = absurd h
stored_of (copy other) h = absurd h
stored_of (bit_of path e bit) h = absurd h
stored_of (flop path clock next bit) h = tt
stored_of (hold path gate e bit) h = tt

of_stored : (d : Driver) → IsStored d → IsStored d
of_stored outside h = absurd h
of_stored (copy other) h = absurd h
of_stored (bit_of path e bit) h = absurd h
of_stored (flop path clock next bit) h = tt
of_stored (hold path gate e bit) h = tt

pub are_loads : (text : List PlainModule) (loads : List Bool) → length loads ≡ length (text_points text) →
    ((number : ℕ) (p : Point) (d : Driver) → IsPoint text number p → Drives text p d → IsStored d → ((slice_get loads number ≡ Some true) ↔ IsLoading text p)) →
    ((number : ℕ) (p : Point) (d : Driver) → IsPoint text number p → Drives text p d → ¬ IsStored d → slice_get loads number ≡ Some false) → AreLoads text loads
are_loads text loads long stored others = record {
  long = long;
  sound = λ number p d is drives holds marked. (stored number p d is drives (stored_of d holds)).0 marked;
  whole = λ number p d is drives holds loading. (stored number p d is drives (stored_of d holds)).1 loading;
  others = λ number p d is drives free. others number p d is drives (λ h. free (of_stored d h));
}

-- the flip-flops and latches among the loading points
pub register_loads : (text : List PlainModule) (all registers : List Bool) → length all ≡ length (text_points text) →
    ((number : ℕ) (p : Point) → IsPoint text number p → ((slice_get all number ≡ Some true) ↔ IsLoading text p)) → length registers ≡ length (text_points text) →
    ((number : ℕ) (p : Point) (d : Driver) → IsPoint text number p → Drives text p d → IsStored d → slice_get registers number ≡ slice_get all number) →
    ((number : ℕ) (p : Point) (d : Driver) → IsPoint text number p → Drives text p d → ¬ IsStored d → slice_get registers number ≡ Some false) → AreLoads text registers
register_loads text all registers all_long marked long stored others =
    are_loads text registers long
    (λ number p d is drives holds.
    let same = stored number p d is drives holds in
    let exact = marked number p is in (λ e. exact.0 (sym same ∙ e), λ loading. same ∙ exact.1 loading)) others

-- the mark of a flip-flop and of a latch is that of its point
stored_mark : (text : List PlainModule) (trees : List Tree) (d : Driver) (drive : Drive) → IsDriveOf text trees d drive → IsStored d → (load : Bool) → stored_by drive load ≡ load
stored_mark text trees (flop path clock next bit) (Flop kind source) of holds load = refl
stored_mark text trees (hold path gate e bit) (Hold opens latched) of holds load = refl
stored_mark text trees outside drive of holds load = absurd holds
stored_mark text trees (copy other) drive of holds load = absurd holds
stored_mark text trees (bit_of path e bit) drive of holds load = absurd holds
stored_mark text trees d drive of holds load = absurd of

-- all others have none
free_mark : (text : List PlainModule) (trees : List Tree) (d : Driver) (drive : Drive) → IsDriveOf text trees d drive → (IsStored d → ⊥) → (load : Bool) →
    stored_by drive load ≡ false
free_mark text trees outside Given of free load = refl
free_mark text trees (copy other) (Same number) of free load = refl
free_mark text trees (bit_of path e bit) (Value source) of free load = refl
free_mark text trees (flop path clock next bit) drive of free load = absurd (free tt)
free_mark text trees (hold path gate e bit) drive of free load = absurd (free tt)
free_mark text trees d drive of free load = absurd of

module _ (text : List PlainModule) (trees : List Tree) (drives : List Drive) (wired : AreDrives text trees drives) (loads registers : List Bool)
    (long : length loads ≡ length (text_points text))
    (marks : (number : ℕ) (drive : Drive) (load : Bool) → slice_get drives number ≡ Some drive → slice_get loads number ≡ Some load →
    slice_get registers number ≡ Some (stored_by drive load)) where
  load_of : (number : ℕ) (p : Point) → IsPoint text number p → (load : Bool) × (slice_get loads number ≡ Some load)
  load_of number p is = some_there loads number (omega (arith, long, slice_get_within (text_points text) number p is))

  pub stored_marks : (number : ℕ) (p : Point) (d : Driver) → IsPoint text number p → Drives text p d → IsStored d → slice_get registers number ≡ slice_get loads number
  stored_marks number p d is driven holds =
      let w = wired number p d is driven in
      let load = load_of number p is in
      marks number w.drive load.0 w.is load.1 ∙ ap (λ (b : Bool). Some b) (stored_mark text trees d w.drive w.of holds load.0) ∙ sym load.1

  pub free_marks : (number : ℕ) (p : Point) (d : Driver) → IsPoint text number p → Drives text p d → ¬ IsStored d → slice_get registers number ≡ Some false
  free_marks number p d is driven free =
      let w = wired number p d is driven in
      let load = load_of number p is in
      marks number w.drive load.0 w.is load.1 ∙ ap (λ (b : Bool). Some b) (free_mark text trees d w.drive w.of free load.0)

-- ---- what is written back

-- a slice of a whole vector
written : (n : ℕ) (old new : List Tern) → n ≡ length old → length new ≡ length old → take n (new ++ drop (length new) old) ≡ new
written n old new is long = take-append-le n new (drop (length new) old) (omega (arith, is, long)) ∙ take_all n new (omega (arith, is, long))

pub first_written : (count : ℕ) (stream : Stream) (len : ℕ) (all before new : List Tern) → stream.strobe < count → len ≡ length all → all ≡ replicate count No →
    before ≡ slice_set all stream.strobe Yes → length new ≡ length before →
    AreFilled (first_data stream.carrier) (data_width stream.carrier) unknown (kept_tern before) (kept_tern new) →
    IsGivenFirst count stream (kept_tern (take len (new ++ drop (length new) (slice_set all stream.strobe Yes))))
first_written count stream len all before new less len_is all_is before_is long opened =
    let strobe = stream.strobe in
    let first = first_data stream.carrier in
    let width = data_width stream.carrier in
    let old = slice_set all strobe Yes in
    let old_long : length old ≡ length all = length-set all strobe Yes in
    let new_long : length new ≡ length old = long ∙ ap length before_is in
    let made : AreFilled first width unknown (kept_tern (slice_set (replicate count No) strobe Yes)) (kept_tern new) =
    subst (λ (xs : List Tern). AreFilled first width unknown (kept_tern xs) (kept_tern new)) (before_is ∙ ap (λ (xs : List Tern). slice_set xs strobe Yes) all_is) opened
    in
    subst (λ (xs : List Tern). IsGivenFirst count stream (kept_tern xs)) (sym (written len old new (omega arith) new_long))
    (given_first count stream new less made)
