-- What packing notes of each net, in tables by net.
use Rattle.std.specs.Prelude.{ℕ, zero, suc, Bool, true, false, not, ◌&&◌, List, [], ◌∷◌, ◌++◌, length, Option, Some, None, get_or, replicate, if◌then◌else◌, is_some}
use Rattle.std.specs.Prelude.{slice_set as set}
use Rattle.fab_netlist.specs.declared.netlist.Latch.{Latch}
use Rattle.fab_netlist.specs.declared.survey.Readers.{Readers}
use Rattle.fab_netlist.specs.declared.survey.Readers.TheVariants as readers
use Rattle.fab_netlist.specs.Plain.{PlainCover, PlainNetlist}
use Rattle.fab_netlist.specs.WellMade.{cover_outputs, latch_inputs}
use Rattle.fab_netlist.specs.Packing.{inner_reads}

-- For each net how many read it, the first latch that takes it, and the first cover that drives it.
pub record PlainSurvey : Type 0 where
  pub readers : List Readers
  pub takers : List (Option ℕ)
  pub drivers : List (Option ℕ)

abbrev pub more : Readers → Readers
more readers.Nobody = readers.One
more readers.One = readers.Several
more readers.Several = readers.Several

abbrev pub is_nobody : Readers → Bool
is_nobody readers.Nobody = true
is_nobody readers.One = false
is_nobody readers.Several = false

abbrev pub is_one : Readers → Bool
is_one readers.Nobody = false
is_one readers.One = true
is_one readers.Several = false

abbrev pub readers_at : List Readers → ℕ → Readers
readers_at table net = get_or table net readers.Nobody

-- each net of the list has one reader more
abbrev pub counted : List ℕ → List Readers → List Readers
counted [] table = table
counted (net ∷ nets) table = counted nets (set table net (more (readers_at table net)))

-- each net of the list has its place in the table, if it has none yet
abbrev pub noted : (place : ℕ) → List ℕ → List (Option ℕ) → List (Option ℕ)
noted place [] table = table
noted place (net ∷ nets) table = noted (suc place) nets (if is_some (get_or table net None) then table else set table net (Some place))

-- for each net its first place in a list
abbrev pub place_table : (size : ℕ) → List ℕ → List (Option ℕ)
place_table size nets = noted 0 nets (replicate size None)

-- a number of readers as far as packing counts
abbrev pub few : ℕ → Readers
few zero = readers.Nobody
few (suc zero) = readers.One
few (suc (suc count)) = readers.Several

-- for each net how many read it, where an output counts as two readers
abbrev pub reader_table : PlainNetlist → List Readers
reader_table netlist = counted (inner_reads netlist ++ (netlist.outputs ++ netlist.outputs)) (replicate (length netlist.nets) readers.Nobody)

-- the tables of the netlist
abbrev pub survey_of : PlainNetlist → PlainSurvey
survey_of netlist = record {
  readers = reader_table netlist;
  takers = place_table (length netlist.nets) (latch_inputs netlist);
  drivers = place_table (length netlist.nets) (cover_outputs netlist.covers);
}

abbrev pub kept_by : PlainSurvey → PlainCover → Bool
kept_by survey cover = not (is_nobody (readers_at survey.readers cover.output))

abbrev pub pair_by : PlainSurvey → PlainCover → Option ℕ
pair_by survey cover = if is_one (readers_at survey.readers cover.output) then get_or survey.takers cover.output None else None

abbrev pub paired_by : PlainSurvey → Latch → Bool
paired_by survey latch = is_one (readers_at survey.readers latch.input) && is_some (get_or survey.drivers latch.input None)
