-- What is given where a machine starts to run: flip-flops and latches hold what the text has there, and inputs that the state does not name are 0.
use Rattle.std.proofs.Common.{◌≡◌, ◌≢◌, ◌⊎◌, ℕ, ◌+◌, ◌-◌, ◌<◌, ◌≤◌, Bool, true, false, List, Some, sym, ap, ◌∙◌, inl, inr, arith, subst}
use Rattle.std.specs.List.{slice_get}
use Rattle.std.proofs.lemmas.Bool.{cases_lt}
use Rattle.std.proofs.lemmas.Option.{slice_get_within}
use Rattle.fab_syntax.specs.Plain.{PlainModule}
use Rattle.fab_systems_laws.specs.Ternary.{known, no, unknown}
use Rattle.fab_meaning.specs.Points.{Point, Driver, Drives, IsStored}
use Rattle.fab_meaning.specs.Settled.{Assignment}
use Rattle.fab_meaning.specs.Loading.{IsLoading}
use Rattle.fab_ternary_laws.specs.Shown.{Terns}
use Rattle.fab_state.specs.Plain.{PlainState}
use Rattle.fab_equations.specs.Instances.{points}
use Rattle.fab_equations.specs.Equations.{IsPoint}
use Rattle.fab_equations.proofs.Numbering.{some_there}
use Rattle.fab_compiled.specs.Leading.{PointTerns}
use Rattle.fab_network.specs.declared.network.Drive.TheVariants.{Given}
use Rattle.fab_network.specs.declared.network.Network.{Network}
use Rattle.fab_ordering_laws.specs.fab_simulation_laws_Simulation.{with_registers}
use Rattle.fab_phases.specs.Lists.{Each}
use Rattle.fab_phases.specs.Cycles.{IsIn}
use Rattle.fab_state_points.specs.Standing.{data_width, first_data}
use Rattle.fab_sim.specs.inner.Starting.{IsSetOut, IsUnnamed}
use Rattle.fab_sim.specs.Machine.{IsNew}
use Rattle.fab_sim.specs.declared.machine.Machine.{Machine}
use Rattle.fab_sim.proofs.Points.{held_not_given}
use Rattle.fab_sim.proofs.Numbers.{ff_not_given, in_given, is_in_given, registers_picked}
use Rattle.fab_sim.proofs.Loaded.{IsHolding, stored_not_strobe, stored_no_data, strobe_no_data}

-- one of the points of WriteData, or none
data_or_not : (first width number : ℕ) → ((bit : ℕ) × (bit < width) × (first + bit ≡ number)) ⊎ ((number < first) ⊎ (first + width ≤ number))
data_or_not first width number =
    elim (cases_lt number first) [
      | inl before ↦ inr (inl before)
      | inr behind ↦ elim (cases_lt number (first + width)) [
        | inl inside ↦ inl (number - first, omega (arith, behind, inside), omega (arith, behind))
        | inr after ↦ inr (inr after)
      ]
    ]

same_or_not : (m n : ℕ) → (m ≡ n) ⊎ (m ≢ n)
same_or_not m n =
    elim (cases_lt m n) [
      | inl less ↦ inr (λ same. omega (arith, less, same))
      | inr not_less ↦ elim (cases_lt n m) [
        | inl more ↦ inr (λ same. omega (arith, more, same))
        | inr not_more ↦ inl (omega (arith, not_less, not_more))
      ]
    ]

-- What a machine starts with holds what the text does.
pub record StartsAs (text : List PlainModule) (network : Network) (ins : List ℕ) (held : Terns) (given : PointTerns) : Type 0 where
  pub agree : (number : ℕ) (p : Point) (d : Driver) → IsPoint text number p → Drives text p d → IsStored d → given number ≡ held p
  pub low : (number : ℕ) → slice_get network.drives.items number ≡ Some Given → (IsIn ins number → ⊥) → given number ≡ no
  pub opened : Each ins (λ number. (slice_get network.drives.items number ≡ Some Given) × (given number ≡ unknown))

module _ (text : List PlainModule) (state : PlainState) (machine : Machine) (new : IsNew text state machine) (after : Assignment) (old given : PointTerns)
    (holding : IsHolding text machine.network machine.points.stream after old) (set : IsSetOut machine.points machine.values.items old given) (loaded : Terns)
    (is_loaded : (p : Point) → IsLoading text p → loaded p ≡ known (after p)) (not_loaded : (p : Point) → (IsLoading text p → ⊥) → loaded p ≡ no) where
  -- what is held where the state sets nothing
  held_before : (number : ℕ) (p : Point) (d : Driver) → IsPoint text number p → Drives text p d → IsStored d → (mark : Bool) →
      slice_get new.loads number ≡ Some mark →
      old number ≡ loaded p
  held_before number p d is driven holds true marked =
      let loading = new.are.sound number p d is driven holds marked in
      holding.loading number p d is driven holds loading ∙ sym (is_loaded p loading)
  held_before number p d is driven holds false marked =
      let not : IsLoading text p → ⊥ =
      λ loading. (let both : Some false ≡ Some true = sym marked ∙ new.are.whole number p d is driven holds loading in cc) in
      holding.others number p d is driven holds not ∙ sym (not_loaded p not)

  marked_so : (number : ℕ) (p : Point) → IsPoint text number p → (mark : Bool) × (slice_get new.loads number ≡ Some mark)
  marked_so number p is =
      let long = new.are.long in
      let within = slice_get_within (points text) number p is in
      some_there new.loads number (omega (arith, long, within))

  agree_first : (number : ℕ) (p : Point) (d : Driver) → IsPoint text number p → Drives text p d → IsStored d →
      given number ≡ with_registers state.ffs loaded p
  agree_first number p d is driven holds =
      elim (registers_picked text new.of.network.sound state.ffs machine.points.ffs.items new.of.stands.ffs loaded number p is) [
        | inl found ↦ set.registers found.0 number found.1 found.2 (ap (λ (xs : List Bool). slice_get xs found.0) new.of.values ∙ found.3) ∙ sym found.4
        | inr none ↦ (
            let unnamed : IsUnnamed machine.points number = record {
              ins = λ named. held_not_given text machine.network new.of.network number p d is driven holds
                  (is_in_given text machine.network new.of.network state machine.points new.of.stands number named);
              ffs = none.0;
            } in
            let mark = marked_so number p is in
            set.others number unnamed (stored_not_strobe text machine.network new.of.network machine.points.stream new.of.stands.has new.of.stands.stream
            number p d is driven holds)
            (stored_no_data text machine.network new.of.network machine.points.stream new.of.stands.has new.of.stands.stream number p d is driven holds)
            ∙ held_before number p d is driven holds mark.0 mark.1 ∙ sym none.1)
      ]

  low_first : (number : ℕ) → slice_get machine.network.drives.items number ≡ Some Given → (IsIn machine.points.ins.items number → ⊥) → given number ≡ no
  low_first number e not_in =
      let unnamed : IsUnnamed machine.points number = record {
        ins = not_in;
        ffs = λ named. ff_not_given text machine.network new.of.network state
            machine.points new.of.stands number named e;
      } in
      elim (data_or_not (first_data machine.points.stream.carrier) (data_width machine.points.stream.carrier) number) [
        | inl bit ↦ subst (λ (n : ℕ). IsUnnamed machine.points n → given n ≡ no) bit.2 (set.carrier bit.0 bit.1) unnamed
        | inr no_data ↦ elim (same_or_not number machine.points.stream.strobe) [
          | inl strobe ↦ subst (λ (n : ℕ). IsUnnamed machine.points n → given n ≡ no) (sym strobe)
              (λ apart. set.strobe apart (strobe_no_data text machine.network new.of.network machine.points.stream new.of.stands.has new.of.stands.stream))
              unnamed
          | inr other ↦ set.others number unnamed other no_data ∙ holding.low number e other no_data
        ]
      ]

  open_first : Each machine.points.ins.items (λ number. (slice_get machine.network.drives.items number ≡ Some Given) × (given number ≡ unknown))
  open_first place number e =
      let is_given = in_given text machine.network new.of.network state machine.points new.of.stands place number e in
      (is_given, set.opened place number e (λ named. ff_not_given text machine.network new.of.network state machine.points new.of.stands number named is_given))

  pub starts_as : StartsAs text machine.network machine.points.ins.items (with_registers state.ffs loaded) given
  starts_as = record { agree = agree_first; low = low_first; opened = open_first }
