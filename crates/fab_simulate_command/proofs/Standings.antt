-- A machine stands where the text has what the lines of the state name.
use Rattle.std.proofs.Common.{◌≡◌, ◌≢◌, ◌⊎◌, ◌<◌, ℕ, List, [], ◌∷◌, ◌++◌, All, length, Option, Some, inl, inr, refl, sym, ap, ◌∙◌, subst, suc, arith}
use Rattle.std.proofs.lemmas.List.Elements.{All-append, All-from_recursion}
use Rattle.std.specs.List.{AllByRecursion}
use Rattle.fab_base.specs.declared.fault.Fault.{Fault}
use Rattle.fab_base.specs.declared.fault.Fault.TheVariants as faults
use Rattle.fab_lines.specs.Counts.{last_line}
use Rattle.fab_lines.specs.Order.{IsTextFault}
use Rattle.fab_syntax.specs.Plain.{PlainModule}
use Rattle.fab_texts.specs.Rows.{rows_of}
use Rattle.fab_state.specs.Plain.{PlainState}
use Rattle.fab_state.specs.Spelled.{Says, state_format}
use Rattle.fab_sim.specs.fab_state_points_Entries.{HasEntry, entry_point, in_entries, out_entries, register_entries}
use Rattle.fab_sim.specs.fab_state_points_Standing.{AreAt, IsRefusedState, StandsAt}
use Rattle.fab_sim.specs.fab_state_points_entry_Entry.{Entry}
use Rattle.fab_equations.specs.Equations.{IsPoint}
use Rattle.fab_sim.specs.Machine.{IsNew}
use Rattle.fab_sim.specs.declared.machine.Machine.{Machine}
use Rattle.fab_simulate_command.specs.Simulating.{HasPoints, RefusesState, absent, at_line, misspelled}

-- each line has its point
each_has : (text : List PlainModule) (lines : List Entry) (numbers : List ℕ) → AreAt text lines numbers → AllByRecursion (HasEntry text) lines
each_has text [] numbers at = tt
each_has text (line ∷ lines) [] at = absurd (let differ = at.long in cc)
each_has text (line ∷ lines) (number ∷ numbers) at =
    ((at.each 0 line number refl refl).0, each_has text lines numbers (record { long = (let tails = at.long in omega (arith, tails)); each = λ place entry other is there. at.each (suc place) entry other is there }))

lines_have : (text : List PlainModule) (lines : List Entry) (numbers : List ℕ) → AreAt text lines numbers → All (HasEntry text) lines
lines_have text lines numbers at = All-from_recursion (HasEntry text) lines (each_has text lines numbers at)

pub points_of_new : (text : List PlainModule) (state : PlainState) (machine : Machine) → IsNew text state machine → HasPoints text state
points_of_new text state machine new =
    let stands = new.of.stands in
    record {
      stream = stands.has;
      entries = All-append (HasEntry text) (in_entries state.ins) (out_entries state.outs ++ register_entries state.ffs)
          (lines_have text (in_entries state.ins) machine.points.ins.items stands.ins)
          (All-append (HasEntry text) (out_entries state.outs) (register_entries state.ffs) (lines_have text (out_entries state.outs) machine.points.outs.items stands.outs)
          (lines_have text (register_entries state.ffs) machine.points.ffs.items stands.ffs));
    }

-- ---- refusals

-- a text is refused, or memory was
pub spelling_refused : (text : List PlainModule) (file bytes : List ℕ) (fault : Fault) → (fault ≢ faults.Memory → IsTextFault state_format file (rows_of bytes) (last_line bytes) fault) →
    (fault ≡ faults.Memory) ⊎ RefusesState text file bytes fault
spelling_refused text file bytes faults.Memory refused = inl refl
spelling_refused text file bytes fault refused = inr (misspelled (refused (λ same. cc)))

-- a line whose point is not there is refused, or memory was
pub points_refused : (text : List PlainModule) (file bytes : List ℕ) (state : PlainState) (counted fault : Fault) → Says (rows_of bytes) state → fault ≡ at_line (rows_of bytes) counted →
    IsRefusedState file text state counted → (fault ≡ faults.Memory) ⊎ RefusesState text file bytes fault
points_refused text file bytes state counted fault says is (inl memory) = inl (is ∙ ap (at_line (rows_of bytes)) memory)
points_refused text file bytes state counted fault says is (inr (inl none)) =
    inr (absent state counted says (λ memory. let differ = sym none.1 ∙ memory in cc) (inr (inl none)) is)
points_refused text file bytes state counted fault says is (inr (inr first)) =
    inr (absent state counted says (λ memory. let differ = sym first.1.fault_is ∙ memory in cc) (inr (inr first)) is)
