-- The list of the command `matrix`: no name is an output and an input, and no output has too many inputs.
use Rattle.std.specs.Prelude.{◌≡◌, ℕ, Bool, true, List, [], ◌||◌, length, map, nat_lt, find, if◌then◌else◌, Option, Some, None, Ok}
use Rattle.std.specs.List.{list_any}
use Rattle.std.specs.Str.{bytes_eq}
use Rattle.fab_base.specs.Reading.{fault_at}
use Rattle.fab_base.specs.declared.fault.Fault.{Fault}
use Rattle.fab_base.specs.declared.words.Reason.TheVariants as reasons
use Rattle.fab_base.specs.declared.words.Quantity.TheVariants as quantities
use Rattle.fab_base.specs.declared.problem.Problem.{Problem}
use Rattle.fab_base.specs.declared.problem.Problem.TheVariants as problems
use Rattle.fab_desk.specs.Files.{Map}
use Rattle.fab_lines.specs.Names.{is_wire_name}
use Rattle.fab_select.specs.Selection.{inputs_of}
use Rattle.fab_tables.specs.Lists.{Pair}
use Rattle.fab_lines.specs.Counts.{last_line}
use Rattle.fab_files.specs.Files.{handed_out, Event, refuses}
use Rattle.fab_list_files.specs.Lists.{Knowledge, most_open, ReadsListFile, MeetsListFile}

-- ---- both sides

abbrev pub has_output : List Pair → (name : List ℕ) → Bool
has_output pairs name = list_any (λ pair. bytes_eq name pair.0) pairs

abbrev pub has_input : List Pair → (name : List ℕ) → Bool
has_input pairs name = list_any (λ pair. bytes_eq name pair.1) pairs

-- the output of a pair is an input of these pairs, or its input is an output of them
abbrev pub crosses : List Pair → Pair → Bool
crosses pairs pair = has_input pairs pair.0 || has_output pairs pair.1

-- with the new pairs some name is an output and an input
abbrev pub on_both_sides : Knowledge
on_both_sides before new = if list_any (λ pair. crosses before pair || crosses new pair) new then Some reasons.BothSides else None

-- ---- inputs of an output

-- an output has at most so many inputs
abbrev pub most_inputs : ℕ
most_inputs = 256

abbrev pub input_count : {K X : Type 0} → (same : K → K → Bool) → List (K × X) → (output : K) → ℕ
input_count same pairs output = length (inputs_of same pairs output)

-- how many inputs the first output has that has too many, in the order of the outputs' first pairs
abbrev pub crowd : {K X : Type 0} → (same : K → K → Bool) → List (K × X) → Option ℕ
crowd same pairs = find (nat_lt most_inputs) (map (λ pair. input_count same pairs pair.0) pairs)

abbrev pub crowd_limit : (inputs : ℕ) → Problem
crowd_limit inputs = problems.Limit quantities.InputsOfAnOutput inputs most_inputs

-- ---- the list as a whole

-- The list comes to these pairs, and no output has too many inputs.
pub record SpellsPairs (files : Map) (list : List ℕ) (pairs : List Pair) : Type 0 where
  pub read : ReadsListFile files on_both_sides most_open list [] pairs
  pub few : crowd bytes_eq pairs ≡ None

-- What a reader of the list comes upon: what its files hold, or else an output that has too many inputs, which is refused
-- at the last line of the list itself.
pub data MeetsPairs (files : Map) (list : List ℕ) : Event → Type 0 where
  of_list : {event : Event} → MeetsListFile files on_both_sides most_open list [] event → MeetsPairs files list event
  of_crowd : {bytes : List ℕ} {pairs : List Pair} {inputs : ℕ}
      → handed_out files list ≡ Ok bytes
      → ReadsListFile files on_both_sides most_open list [] pairs
      → crowd bytes_eq pairs ≡ Some inputs
      → MeetsPairs files list (refuses (fault_at list (last_line bytes) (crowd_limit inputs)))

-- the first refusal of a list
abbrev pub RefusesPairs : (files : Map) (list : List ℕ) → Fault → Type 0
RefusesPairs files list fault = MeetsPairs files list (refuses fault)

-- both names of a pair are names of wires
abbrev pub HasWireNames : Pair → Type 0
HasWireNames pair = (is_wire_name pair.0 ≡ true) × (is_wire_name pair.1 ≡ true)
