-- Covers that read one another round. Covers are named by their places in the netlist.
use Rattle.std.specs.Prelude.{◌≡◌, ◌⊎◌, ℕ, ◌<◌, ◌≤◌, List, [], ◌∷◌, ◌++◌, length, Contains, codes}
use Rattle.std.specs.List.{flat_map}
use Rattle.fab_base.specs.declared.fault.Fault.{Fault}
use Rattle.fab_base.specs.declared.fault.Fault.TheVariants as faults
use Rattle.fab_base.specs.Report.{spaced}
use Rattle.fab_netlist.specs.Plain.{PlainNetlist, cover_at, name_of}
use Rattle.fab_netlist.specs.WellMade.{times}

-- the first cover reads the output of the second
abbrev pub Reads : PlainNetlist → (reader source : ℕ) → Type 0
Reads netlist reader source =
    (reader < length netlist.covers) × (source < length netlist.covers) × Contains (cover_at netlist reader).inputs (cover_at netlist source).output

-- each cover from the first on reads the next, and the last of them reads the end
abbrev pub ReadsOn : PlainNetlist → (first : ℕ) → List ℕ → (end : ℕ) → Type 0
ReadsOn netlist first [] end = Reads netlist first end
ReadsOn netlist first (second ∷ rest) end = Reads netlist first second × ReadsOn netlist second rest end

-- each cover reads the next, and the last one the first
abbrev pub IsCycle : PlainNetlist → List ℕ → Type 0
IsCycle netlist [] = ⊥
IsCycle netlist (first ∷ rest) = ReadsOn netlist first rest first

-- a cycle in which no cover stands twice
abbrev pub IsOneCycle : PlainNetlist → List ℕ → Type 0
IsOneCycle netlist places = IsCycle netlist places × ((place : ℕ) → times place places ≤ 1)

abbrev pub HasNoCycle : PlainNetlist → Type 0
HasNoCycle netlist = (places : List ℕ) → IsCycle netlist places → ⊥

-- covers read only covers of lower rank
abbrev pub IsRank : PlainNetlist → (ℕ → ℕ) → Type 0
IsRank netlist rank = (reader source : ℕ) → Reads netlist reader source → rank source < rank reader

abbrev pub HasRank : PlainNetlist → Type 0
HasRank netlist = (rank : ℕ → ℕ) × IsRank netlist rank

abbrev pub RankMeansNoCycle : Type 0
RankMeansNoCycle = (netlist : PlainNetlist) → (HasRank netlist → HasNoCycle netlist) × (HasNoCycle netlist → HasRank netlist)

-- by line, and on one line as they stand in the netlist
abbrev pub ComesFirst : PlainNetlist → ℕ → ℕ → Type 0
ComesFirst netlist j k =
    ((cover_at netlist j).line < (cover_at netlist k).line) ⊎ (((cover_at netlist j).line ≡ (cover_at netlist k).line) × (j ≤ k))

-- `cycle` and the nets that the covers drive
abbrev pub cycle_words : PlainNetlist → List ℕ → List ℕ
cycle_words netlist places = codes "cycle" ++ flat_map (λ place. spaced (name_of netlist (cover_at netlist place).output)) places

-- A cycle in which no cover stands twice, from its first cover on.
pub record IsNamed (netlist : PlainNetlist) (first : ℕ) (rest : List ℕ) : Type 0 where
  pub cycle : IsCycle netlist (first ∷ rest)
  pub once : (place : ℕ) → times place (first ∷ rest) ≤ 1
  pub starts : (place : ℕ) → Contains rest place → ComesFirst netlist first place

-- the refusal of a cycle
abbrev pub NamesCycle : (file : List ℕ) → PlainNetlist → Fault → Type 0
NamesCycle file netlist fault =
    (first : ℕ) × (rest : List ℕ) × IsNamed netlist first rest
    × (fault ≡ faults.Unsupported (record { file = file; line = (cover_at netlist first).line }) (cycle_words netlist (first ∷ rest)))
