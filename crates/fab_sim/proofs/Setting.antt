-- What is set where a machine starts to run.
use Rattle.std.proofs.Common.{◌≡◌, ℕ, ◌+◌, ◌<◌, Bool, List, length, ap, subst, ◌∙◌, slice_set}
use Rattle.std.specs.List.{slice_get}
use Rattle.fab_systems_laws.specs.Ternary.{no, unknown}
use Rattle.fab_ternary.specs.declared.Tern.{Tern}
use Rattle.fab_ternary.specs.declared.Tern.TheVariants.{No}
use Rattle.fab_network.specs.Passes.{kept_tern}
use Rattle.fab_network.proofs.Kept.{kept_same, kept_other}
use Rattle.fab_phases.specs.Lists.{Each}
use Rattle.fab_phases.specs.Cycles.{IsFed, IsIn}
use Rattle.fab_state_points.specs.Standing.{data_width, first_data}
use Rattle.fab_state_points.specs.declared.points.StatePoints.{StatePoints}
use Rattle.fab_sim.specs.inner.Starting.{AreFilled, IsSetOut, IsUnnamed}

pub all_set : (at : StatePoints) (values : List Bool) (old cleared opened new : List Tern) (ins ffs : List ℕ) → ins ≡ at.ins.items → ffs ≡ at.ffs.items →
    at.stream.strobe < length old →
    AreFilled (first_data at.stream.carrier) (data_width at.stream.carrier) no (kept_tern (slice_set old at.stream.strobe No)) (kept_tern cleared) →
    Each ins (λ number. kept_tern opened number ≡ unknown) → ((number : ℕ) → (IsIn ins number → ⊥) → kept_tern opened number ≡ kept_tern cleared number) →
    IsFed ffs values (kept_tern opened) (kept_tern new) → IsSetOut at values (kept_tern old) (kept_tern new)
all_set at values old cleared opened new ins ffs ins_are ffs_are within is_cleared are_open others is_fed =
    let unnamed_same : (number : ℕ) → IsUnnamed at number → kept_tern new number ≡ kept_tern cleared number =
    λ number unnamed.
    is_fed.others number (λ named. unnamed.ffs (subst (λ (ns : List ℕ). IsIn ns number) ffs_are named))
    ∙ others number (λ named. unnamed.ins (subst (λ (ns : List ℕ). IsIn ns number) ins_are named)) in
    record {
      registers = λ place number value e f. is_fed.fed place number value (ap (λ (ns : List ℕ). slice_get ns place) ffs_are ∙ e) f;
      opened = λ place number e apart.
          is_fed.others number (λ named. apart (subst (λ (ns : List ℕ). IsIn ns number) ffs_are named))
          ∙ are_open place number (ap (λ (ns : List ℕ). slice_get ns place) ins_are ∙ e);
      strobe = λ unnamed apart. unnamed_same at.stream.strobe unnamed ∙ is_cleared.others at.stream.strobe apart ∙ kept_same old at.stream.strobe No within;
      carrier = λ bit less unnamed. unnamed_same (first_data at.stream.carrier + bit) unnamed ∙ is_cleared.filled bit less;
      others = λ number unnamed apart outside.
          unnamed_same number unnamed ∙ is_cleared.others number outside ∙ kept_other old at.stream.strobe No number apart;
    }
