-- A state's file spells one state that stands in a text, or is refused for one fault.
use Rattle.std.proofs.Common.{◌≡◌, ◌≢◌, ◌<◌, ◌+◌, ℕ, List, Option, Some, slice_get, inl, inr, sym, ap, ◌∙◌, subst, arith}
use Rattle.std.proofs.lemmas.Bool.{cases_lt}
use Rattle.std.proofs.lemmas.List.Elements.{All-get_or}
use Rattle.std.proofs.lemmas.Option.{get_or_from_slice_get, slice_get_within}
use Rattle.fab_base.specs.Reading.{fault_at}
use Rattle.fab_base.specs.declared.fault.Fault.{Fault}
use Rattle.fab_base.specs.declared.fault.Fault.TheVariants as faults
use Rattle.fab_base.specs.declared.problem.Problem.TheVariants as problems
use Rattle.fab_files.specs.Stages.{AreJudged}
use Rattle.fab_lines.proofs.Wholes.{text_fault_once, whole_not_refused}
use Rattle.fab_syntax.specs.Plain.{PlainModule}
use Rattle.fab_texts.specs.Rows.{rows_of}
use Rattle.fab_state.specs.Plain.{PlainState}
use Rattle.fab_state.specs.Spelled.{Says}
use Rattle.fab_sim.specs.fab_state_points_Entries.{HasEntry, entries_of, reason_of}
use Rattle.fab_sim.specs.fab_state_points_Standing.{IsFirstAbsent, IsRefusedState}
use Rattle.fab_sim.specs.fab_state_points_entry_Entry.{Entry}
use Rattle.fab_simulate_command.specs.Simulating.{HasPoints, RefusesState, SpellsState, absent, at_line, misspelled}

-- ---- the first line that has no point

same_entry : {a b : Entry} → (let entry : Entry → Option Entry = λ e. Some e in entry a ≡ entry b) → a ≡ b
same_entry same = cc

module _ (text : List PlainModule) (file : List ℕ) (before : ℕ) (lines : List Entry) where
  none_before : (a b : Fault) (x : IsFirstAbsent text file before lines a) (y : IsFirstAbsent text file before lines b) → x.place < y.place → ⊥
  none_before a b x y less = x.absent (y.earlier x.place x.entry less x.is)

  same_place : (a b : Fault) (x : IsFirstAbsent text file before lines a) (y : IsFirstAbsent text file before lines b) → x.place ≡ y.place → a ≡ b
  same_place a b x y same =
      let alike : x.entry ≡ y.entry = same_entry (sym x.is ∙ ap (slice_get lines) same ∙ y.is) in
      x.fault_is ∙ (λ j. fault_at file (before + same j + 1) (problems.Malformed (reason_of (alike j)))) ∙ sym y.fault_is

  absent_once : (a b : Fault) → IsFirstAbsent text file before lines a → IsFirstAbsent text file before lines b → a ≡ b
  absent_once a b x y = elim (cases_lt x.place y.place) [
    | inl less ↦ absurd (none_before a b x y less)
    | inr other ↦ elim (cases_lt y.place x.place) [
      | inl less ↦ absurd (none_before b a y x less)
      | inr more ↦ same_place a b x y (omega (arith, other, more))
    ]
  ]

counted_once : (file : List ℕ) (text : List PlainModule) (state : PlainState) (a b : Fault) → a ≢ faults.Memory → b ≢ faults.Memory → IsRefusedState file text state a →
    IsRefusedState file text state b → a ≡ b
counted_once file text state a b told also (inl memory) y = absurd (told memory)
counted_once file text state a b told also (inr x) (inl memory) = absurd (also memory)
counted_once file text state a b told also (inr (inl x)) (inr (inl y)) = x.1 ∙ sym y.1
counted_once file text state a b told also (inr (inl x)) (inr (inr y)) = absurd (x.0 y.0)
counted_once file text state a b told also (inr (inr x)) (inr (inl y)) = absurd (y.0 x.0)
counted_once file text state a b told also (inr (inr x)) (inr (inr y)) = absent_once text file 1 (entries_of state) a b x.1 y.1

points_not_refused : (file : List ℕ) (text : List PlainModule) (state : PlainState) (fault : Fault) → HasPoints text state → fault ≢ faults.Memory → IsRefusedState file text state fault → ⊥
points_not_refused file text state fault has told (inl memory) = told memory
points_not_refused file text state fault has told (inr (inl none)) = none.0 has.stream
points_not_refused file text state fault has told (inr (inr first)) =
    let lines = entries_of state in
    let it = first.1 in
    it.absent (subst (HasEntry text) (get_or_from_slice_get lines it.place it.entry it.entry it.is)
    (All-get_or (HasEntry text) lines it.place it.entry (slice_get_within lines it.place it.entry it.is) has.entries))

-- ---- the file

one_state : (rows_bytes : List ℕ) (a b : PlainState) → Says (rows_of rows_bytes) a → Says (rows_of rows_bytes) b → a ≡ b
one_state rows_bytes a b x y = x.1 ∙ sym y.1

state_refused_once : (text : List PlainModule) (file bytes : List ℕ) (a b : Fault) → RefusesState text file bytes a → RefusesState text file bytes b → a ≡ b
state_refused_once text file bytes a b (misspelled x) (misspelled y) = text_fault_once x y
state_refused_once text file bytes a b (misspelled x) (absent state counted says told y is) = absurd (whole_not_refused says.0 x.refusal)
state_refused_once text file bytes a b (absent state counted says told x is) (misspelled y) = absurd (whole_not_refused says.0 y.refusal)
state_refused_once text file bytes a b (absent state counted says told x is) (absent other again also too y it) =
    let here = subst (λ (s : PlainState). IsRefusedState file text s counted) (one_state bytes state other says also) x in
    is ∙ ap (at_line (rows_of bytes)) (counted_once file text other counted again told too here y) ∙ sym it

state_apart : (text : List PlainModule) (file bytes : List ℕ) (state : PlainState) (fault : Fault) → SpellsState text bytes state → RefusesState text file bytes fault → ⊥
state_apart text file bytes state fault spells (misspelled x) = whole_not_refused spells.says.0 x.refusal
state_apart text file bytes state fault spells (absent other counted also told x is) =
    points_not_refused file text state counted spells.points told (subst (λ (s : PlainState). IsRefusedState file text s counted) (one_state bytes other state also spells.says) x)

pub state_is_judged : (text : List PlainModule) (file : List ℕ) → AreJudged (λ a b. a ≡ b) (SpellsState text) (RefusesState text file)
state_is_judged text file = record {
  once = λ bytes a b x y. one_state bytes a b x.says y.says;
  refused_once = λ bytes a b x y. state_refused_once text file bytes a b x y;
  apart = λ bytes state fault x y. state_apart text file bytes state fault x y;
}
