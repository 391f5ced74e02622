-- Covers of more than four inputs, split into covers of at most four.
use Rattle.std.specs.Prelude.{◌≡◌, ℕ, zero, suc, ◌+◌, ◌/◌, ◌%◌, ◌^◌, ◌<◌, List, [], ◌∷◌, ◌++◌, length, take, get_or, replicate, nat_eq, nat_lt, if◌then◌else◌}
use Rattle.fab_base.specs.declared.fault.Fault.{Fault}
use Rattle.fab_base.specs.declared.problem.Problem.TheVariants as problems
use Rattle.fab_base.specs.declared.words.Quantity.TheVariants as quantities
use Rattle.fab_base.specs.Reading.{fault_at}
use Rattle.fab_netlist.specs.Plain.{PlainCover, PlainNetlist}
use Rattle.fab_netlist.specs.WellMade.{most_nets}

-- The halves of a table of n + 1 inputs: its bits where the last input is 0, and where that is 1.
abbrev pub low_half : (n table : ℕ) → ℕ
low_half n table = table % 2 ^ 2 ^ n

abbrev pub high_half : (n table : ℕ) → ℕ
high_half n table = table / 2 ^ 2 ^ n

-- CACA: of three inputs the first one where the third is 0, and the second one where it is 1
abbrev pub chooser : ℕ
chooser = 51914

abbrev pub cover_with : (line : ℕ) → (inputs : List ℕ) → (output table : ℕ) → PlainCover
cover_with line inputs output table = record { line = line; inputs = inputs; output = output; table = table }

-- How many new nets a table of so many inputs takes. Two where the halves differ, and those of the halves.
abbrev pub taken : (count table : ℕ) → ℕ
taken zero table = 0
taken (suc n) table =
    if nat_lt n 4 then 0
    else if nat_eq (low_half n table) (high_half n table) then taken n (low_half n table)
    else 2 + (taken n (low_half n table) + taken n (high_half n table))

-- The covers that stand for a table over so many inputs of a list. With at most four inputs it is one cover. Else, where the halves are
-- equal, the last input does not matter. Else each half gets a new net, from `fresh` on, and the last input chooses between these two.
abbrev pub narrow : (line : ℕ) → (inputs : List ℕ) → (count table output fresh : ℕ) → List PlainCover
narrow line inputs zero table output fresh = cover_with line [] output table ∷ []
narrow line inputs (suc n) table output fresh =
    if nat_lt n 4 then cover_with line (take (suc n) inputs) output table ∷ []
    else if nat_eq (low_half n table) (high_half n table) then narrow line inputs n (low_half n table) output fresh
    else narrow line inputs n (low_half n table) fresh (2 + fresh)
    ++ (narrow line inputs n (high_half n table) (1 + fresh) (taken n (low_half n table) + (2 + fresh))
    ++ cover_with line (fresh ∷ (1 + fresh) ∷ get_or inputs n 0 ∷ []) output chooser ∷ [])

abbrev pub taken_by : PlainCover → ℕ
taken_by cover = taken (length cover.inputs) cover.table

-- the covers that stand for a cover
abbrev pub parts : PlainCover → (fresh : ℕ) → List PlainCover
parts cover fresh = narrow cover.line cover.inputs (length cover.inputs) cover.table cover.output fresh

abbrev pub all_taken : List PlainCover → ℕ
all_taken [] = 0
all_taken (cover ∷ covers) = taken_by cover + all_taken covers

-- each cover is replaced in its place
abbrev pub all_parts : List PlainCover → (fresh : ℕ) → List PlainCover
all_parts [] fresh = []
all_parts (cover ∷ covers) fresh = parts cover fresh ++ all_parts covers (taken_by cover + fresh)

-- The netlist with all its covers split. New nets come last, and have no name.
abbrev pub split_of : PlainNetlist → PlainNetlist
split_of netlist = record {
  nets = netlist.nets ++ replicate (all_taken netlist.covers) [];
  inputs = netlist.inputs;
  outputs = netlist.outputs;
  covers = all_parts netlist.covers (length netlist.nets);
  latches = netlist.latches;
  reset = netlist.reset;
}

-- how many nets it has
abbrev pub split_nets : PlainNetlist → ℕ
split_nets netlist = length netlist.nets + all_taken netlist.covers

-- the refusal of a netlist that would have too many nets
abbrev pub RefusesSplit : (file : List ℕ) → (last_line : ℕ) → PlainNetlist → Fault → Type 0
RefusesSplit file last_line netlist fault =
    (most_nets < split_nets netlist) × (fault ≡ fault_at file last_line (problems.Limit quantities.Nets (split_nets netlist) most_nets))
