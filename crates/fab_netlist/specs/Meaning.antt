-- The values that the nets of a netlist have.
use Rattle.std.specs.Prelude.{◌≡◌, ℕ, Bool, false, List, [], ◌∷◌, map, Contains, Option, Some, None, get_or, nat_eq, if◌then◌else◌}
use Rattle.fab_bits.specs.Bits.{number}
use Rattle.fab_netlist.specs.declared.netlist.Latch.{Latch}
use Rattle.fab_netlist.specs.Plain.{PlainCover, PlainNetlist, IsAt, bit_at}
use Rattle.fab_netlist.specs.WellMade.{IsWired, times, driven, latch_outputs, table_bit}
use Rattle.fab_netlist.specs.Cycles.{HasNoCycle}

-- what a cover makes of the values of its inputs
abbrev pub cover_value : PlainCover → (ℕ → Bool) → Bool
cover_value cover now = table_bit cover.table (number (map now cover.inputs))

-- An assignment of all nets under values of the inputs and held values of the latches, both by place.
pub record Meets (netlist : PlainNetlist) (given held now : ℕ → Bool) : Type 0 where
  pub covers : (cover : PlainCover) → Contains netlist.covers cover → now cover.output ≡ cover_value cover now
  pub latches : (place net : ℕ) → IsAt (latch_outputs netlist) place net → now net ≡ held place
  pub inputs : (place net : ℕ) → IsAt netlist.inputs place net → now net ≡ given place
  pub others : (net : ℕ) → times net (driven netlist) ≡ 0 → now net ≡ false

-- whether a latch of this initial value begins with 1: 2 and 3, any value, are 0
abbrev pub begins_high : (init : ℕ) → Bool
begins_high init = nat_eq init 1

-- what a latch begins with
abbrev pub first_value : Latch → Bool
first_value latch = begins_high latch.init

abbrev pub reset_by : (inputs : List ℕ) → (ℕ → Bool) → (reset : Option ℕ) → Bool
reset_by inputs now None = false
reset_by inputs now (Some place) = now (get_or inputs place 0)

-- whether the netlist has a reset port, and its net the value 1
abbrev pub is_reset : PlainNetlist → (ℕ → Bool) → Bool
is_reset netlist now = reset_by netlist.inputs now netlist.reset

-- What the latches hold next: what they begin with where they are reset, and else what their inputs have.
abbrev pub next_held : PlainNetlist → (ℕ → Bool) → List Bool
next_held netlist now = map (λ latch. if is_reset netlist now then first_value latch else now latch.input) netlist.latches

-- A run from held values over input vectors: in each cycle the assignment of all nets.
abbrev pub IsRun : PlainNetlist → (held : List Bool) → (vectors : List (List Bool)) → List (ℕ → Bool) → Type 0
IsRun netlist held [] [] = Unit {0}
IsRun netlist held [] (now ∷ later) = ⊥
IsRun netlist held (given ∷ vectors) [] = ⊥
IsRun netlist held (given ∷ vectors) (now ∷ later) = Meets netlist (bit_at given) (bit_at held) now × IsRun netlist (next_held netlist now) vectors later

abbrev pub HasOneMeaning : PlainNetlist → Type 0
HasOneMeaning netlist =
    (given held : ℕ → Bool) →
    ((now : ℕ → Bool) × Meets netlist given held now)
    × ((a b : ℕ → Bool) → Meets netlist given held a → Meets netlist given held b → (net : ℕ) → a net ≡ b net)

abbrev pub AcyclicMeansOne : Type 0
AcyclicMeansOne = (netlist : PlainNetlist) → IsWired netlist → HasNoCycle netlist → HasOneMeaning netlist

-- two runs agree on all nets in each cycle
abbrev pub AgreeAlways : (first second : List (ℕ → Bool)) → Type 0
AgreeAlways [] [] = Unit {0}
AgreeAlways [] (b ∷ later) = ⊥
AgreeAlways (a ∷ later) [] = ⊥
AgreeAlways (a ∷ later) (b ∷ rest) = ((net : ℕ) → a net ≡ b net) × AgreeAlways later rest

abbrev pub AcyclicMeansOneRun : Type 0
AcyclicMeansOneRun =
    (netlist : PlainNetlist) → IsWired netlist → HasNoCycle netlist → (held : List Bool) (vectors : List (List Bool)) →
    ((nows : List (ℕ → Bool)) × IsRun netlist held vectors nows)
    × ((first second : List (ℕ → Bool)) → IsRun netlist held vectors first → IsRun netlist held vectors second → AgreeAlways first second)
