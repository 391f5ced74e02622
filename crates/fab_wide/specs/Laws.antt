-- What splitting keeps.
use Rattle.std.specs.Prelude.{◌≡◌, ℕ, ◌<◌, ◌≤◌, Bool, List, [], ◌∷◌, length, Contains}
use Rattle.fab_netlist.specs.Plain.{PlainCover, PlainNetlist}
use Rattle.fab_netlist.specs.WellMade.{IsWired}
use Rattle.fab_netlist.specs.Cycles.{HasNoCycle}
use Rattle.fab_netlist.specs.Meaning.{IsRun}
use Rattle.fab_netlist.specs.Wide.{RunsAsWith}
use Rattle.fab_wide.specs.Split.{split_of}

-- two runs agree on the first nets in each cycle
abbrev pub AgreeOn : (nets : ℕ) → (first second : List (ℕ → Bool)) → Type 0
AgreeOn nets [] [] = Unit {0}
AgreeOn nets [] (b ∷ later) = ⊥
AgreeOn nets (a ∷ later) [] = ⊥
AgreeOn nets (a ∷ later) (b ∷ rest) = ((net : ℕ) → net < nets → a net ≡ b net) × AgreeOn nets later rest

-- no cover has more inputs than these
abbrev pub HasAtMost : (inputs : ℕ) → PlainNetlist → Type 0
HasAtMost inputs netlist = (cover : PlainCover) → Contains netlist.covers cover → length cover.inputs ≤ inputs

-- The split netlist runs as the netlist does, with and without a reset port.
abbrev pub SplitKeepsRuns : Type 0
SplitKeepsRuns = (netlist : PlainNetlist) → IsWired netlist → RunsAsWith netlist (split_of netlist)

-- Each run of the split netlist gives the nets of the netlist what each run of that gives them.
abbrev pub SplitShowsRuns : Type 0
SplitShowsRuns =
    (netlist : PlainNetlist) → IsWired netlist → HasNoCycle netlist → (held : List Bool) (vectors : List (List Bool)) (first second : List (ℕ → Bool)) →
    IsRun (split_of netlist) held vectors first → IsRun netlist held vectors second → AgreeOn (length netlist.nets) first second

-- No cycle arises.
abbrev pub SplitKeepsOrder : Type 0
SplitKeepsOrder = (netlist : PlainNetlist) → IsWired netlist → HasAtMost 16 netlist → HasNoCycle netlist → HasNoCycle (split_of netlist)

-- A netlist without wide covers stays as it is.
abbrev pub SplitKeepsNarrow : Type 0
SplitKeepsNarrow = (netlist : PlainNetlist) → HasAtMost 4 netlist → split_of netlist ≡ netlist
